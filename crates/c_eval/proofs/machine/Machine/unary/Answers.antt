use Rattle.std.specs.Prelude.{[], ◌∷◌, refl}
use Rattle.c_meaning.specs.CoreTrees.{line_of, type_of, what_of}
use Rattle.c_runs.specs.Expressions.{row}
use Rattle.c_runs.specs.Outcomes.{Gives}
use Rattle.c_worlds.specs.Programs.{known, tree}
use Rattle.c_worlds.specs.Shown.{Comes, giving}
use Rattle.c_eval.specs.Stacks.{first_from}
use Rattle.c_eval.specs.States.{own}
use Rattle.c_eval.proofs.Firsts.{no_call_unary, unary_given}
use Rattle.c_eval.proofs.Meeting.{at_own, came_meets}
use Rattle.c_eval.proofs.machine.Machine.unary.Goals as goal

pub unary_act-requires : goal.unary_act-requires
unary_act-requires c = no_call_unary (what_of c.args.e.now) c.requires.shape

pub returns-clause-same : goal.returns-clause-same
returns-clause-same c =
    let p = c.args.program.now in
    let m = c.args.self.now in
    let e = c.args.e.now in
    let a = c.args.part.now in
    let v = c.args.value in
    came_meets p m m (λ k w. row (own p) (what_of e) (known p (type_of e)) (line_of e) (giving (tree p a) v ∷ []) k w) (λ k w. first_from (own p) (tree p e) (Gives v k w)) c.unary_act.result c.came.result (refl, (refl, refl)) (λ k w. unary_given (own p) p e a v k w c.requires.shape c.requires.kids)
    (at_own p (λ s. Comes (λ k w. row s (what_of e) (known p (type_of e)) (line_of e) (giving (tree p a) v ∷ []) k w) m.world m.world c.unary_act.result) c.unary_act.ensures) c.came.ensures
