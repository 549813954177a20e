use Rattle.std.specs.Prelude.{[], refl}
use Rattle.c_meaning.specs.CoreTrees.{line_of, type_of, what_of}
use Rattle.c_runs.specs.Expressions.{eval, row}
use Rattle.c_worlds.specs.Programs.{known, tree}
use Rattle.c_worlds.specs.Shown.{Comes}
use Rattle.c_eval.specs.States.{own}
use Rattle.c_eval.proofs.Firsts.{leaf_eval}
use Rattle.c_eval.proofs.Meeting.{at_own, came_meets}
use Rattle.c_eval.proofs.machine.Machine.leaf.Goals as goal

pub returns-clause-same : goal.returns-clause-same
returns-clause-same c =
    let p = c.args.program.now in
    let m = c.args.self.now in
    let e = c.args.e.now in
    came_meets p m m (λ k w. row (own p) (what_of e) (known p (type_of e)) (line_of e) [] k w) (λ k w. eval (own p) (tree p e) k w) c.leaf.result c.came.result (refl, (refl, refl)) (λ k w. leaf_eval (own p) p e k w c.requires.kids)
    (at_own p (λ s. Comes (λ k w. row s (what_of e) (known p (type_of e)) (line_of e) [] k w) m.world m.world c.leaf.result) c.leaf.ensures) c.came.ensures
