use Rattle.std.specs.Prelude.{[], ◌∷◌}
use Rattle.c_meaning.specs.CoreTrees.{line_of, type_of, what_of}
use Rattle.c_runs.specs.Expressions.{row}
use Rattle.c_runs.specs.Outcomes.{Gives}
use Rattle.c_worlds.specs.Programs.{known, tree}
use Rattle.c_worlds.specs.Shown.{Comes, giving}
use Rattle.c_eval.specs.Stacks.{second_from}
use Rattle.c_eval.specs.States.{own}
use Rattle.c_eval.proofs.Firsts.{second_given}
use Rattle.c_eval.proofs.Meeting.{at_own, came_meets, puts, with_world}
use Rattle.c_eval.proofs.machine.Machine.second.Goals as goal

pub returns-in-Binary-clause-same : goal.returns-in-Binary-clause-same
returns-in-Binary-clause-same c =
    let p = c.args.program.now in
    let m = c.args.self.now in
    let e = c.args.e.now in
    let a = c.in-Binary.left.now in
    let b = c.in-Binary.right.now in
    let v = c.args.left_value in
    let u = c.args.right_value in
    came_meets p m (with_world m c.binary_act.new.world) (λ k w. row (own p) (what_of e) (known p (type_of e)) (line_of e) (giving (tree p a) v ∷ giving (tree p b) u ∷ []) k w) (λ k w. second_from (own p) (tree p e) v (Gives u k w)) c.binary_act.result c.came.result (puts m c.binary_act.new.world c.binary_act.ensures.stays.1)
    (λ k w. second_given (own p) p e a b v u k w c.in-Binary.ensures.0 c.in-Binary.ensures.1)
    (at_own p (λ s. Comes (λ k w. row s (what_of e) (known p (type_of e)) (line_of e) (giving (tree p a) v ∷ giving (tree p b) u ∷ []) k w) m.world c.binary_act.new.world c.binary_act.result) c.binary_act.ensures.comes) c.came.ensures
