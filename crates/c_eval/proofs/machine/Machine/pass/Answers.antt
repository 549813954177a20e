use Rattle.std.proofs.Common.{ap, sym, ◌∙◌}
use Rattle.std.specs.Prelude.{[], ◌∷◌, ◌++◌, ◌+◌, slice_get}
use Rattle.c_runs.specs.Expressions.{argument, arguments, copied_to, parts_of}
use Rattle.c_runs.specs.Outcomes.{Gives}
use Rattle.c_worlds.specs.Programs.{tree, trees}
use Rattle.c_worlds.specs.Shown.{giving}
use Rattle.c_eval.specs.Ends.{OfExpression}
use Rattle.c_eval.specs.Frames.{frames}
use Rattle.c_eval.specs.Stacks.{arguments_from, called, calling_on, passed}
use Rattle.c_eval.specs.States.{own}
use Rattle.c_eval.specs.Steps.{Meets}
use Rattle.c_eval.proofs.Meeting.{meets_as, meets_at}
use Rattle.c_eval.proofs.Passing.{copy_passed, value_passed}
use Rattle.c_eval.proofs.machine.Machine.pass.Goals as goal

pub returns-then-is_structure-clause-same : goal.returns-then-is_structure-clause-same
returns-then-is_structure-clause-same c =
    let p = c.args.program.now in
    let m = c.args.self.now in
    let fs = frames m.stack in
    let a = c.in-Some.first.now in
    let cs = c.in-Some.rest.now in
    let n = c.args.n in
    let v = c.args.value in
    meets_as p m c.pass_copy.new.self
    (λ k w. OfExpression (copied_to (own p) (slice_get w.locals n) (giving (tree p a) v) v k w (λ x k1 w1. arguments (own p) (n + 1) (parts_of (own p) (trees p cs)) (passed p fs ++ x ∷ []) k1 w1 (λ j xs k2 w2. calling_on p (own p) (called fs) j xs k2 w2))))
    (λ k w. OfExpression (arguments_from p (own p) fs (trees p c.args.arguments.now) n (Gives v k w))) c.pass_copy.result
    (λ k w. ap OfExpression (copy_passed p fs c.args.arguments.now a cs n v k w c.in-Some.ensures.some (sym c.is_structure.ensures ∙ c.if-is_structure.true))) c.pass_copy.ensures.same

pub returns-else-is_structure-clause-same : goal.returns-else-is_structure-clause-same
returns-else-is_structure-clause-same c =
    let p = c.args.program.now in
    let m = c.args.self.now in
    let fs = frames m.stack in
    let a = c.in-Some.first.now in
    let cs = c.in-Some.rest.now in
    let n = c.args.n in
    let v = c.args.value in
    meets_as p m c.pass_on.new.self
    (λ k w. OfExpression (arguments (own p) n (parts_of (own p) (trees p cs)) (passed p fs ++ argument (giving (tree p a) v) v ∷ []) k w (λ j xs k1 w1. calling_on p (own p) (called fs) j xs k1 w1)))
    (λ k w. OfExpression (arguments_from p (own p) fs (trees p c.args.arguments.now) n (Gives v k w))) c.pass_on.result
    (λ k w. ap OfExpression (value_passed p fs c.args.arguments.now a cs n v k w c.in-Some.ensures.some (sym c.is_structure.ensures ∙ c.if-is_structure.false)))
    (meets_at p (λ q focus. Meets q m (λ k w. OfExpression (arguments (own q) n (parts_of (own q) (trees q cs)) (passed q fs ++ argument (giving (tree q a) v) v ∷ []) k w (λ j xs k1 w1. calling_on q (own q) (called fs) j xs k1 w1))) c.pass_on.new.self focus) c.pass_on.result c.pass_on.ensures.same)
