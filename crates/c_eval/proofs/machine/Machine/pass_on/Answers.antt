use Rattle.std.specs.Prelude.{[], ◌∷◌, ◌++◌, refl}
use Rattle.std.proofs.Common.{ap}
use Rattle.c_runs.specs.Expressions.{argument, arguments, parts_of}
use Rattle.c_worlds.specs.Programs.{tree, trees}
use Rattle.c_worlds.specs.Shown.{giving}
use Rattle.c_eval.specs.Ends.{OfExpression}
use Rattle.c_eval.specs.Frames.{frames}
use Rattle.c_eval.specs.Stacks.{called, calling_on, passed}
use Rattle.c_eval.specs.States.{own}
use Rattle.c_eval.proofs.Meeting.{passed_meets, with_stack}
use Rattle.c_eval.proofs.Passing.{more_passed}
use Rattle.c_eval.proofs.machine.Machine.pass_on.Goals as goal

pub returns-clause-same : goal.returns-clause-same
returns-clause-same c =
    let m = c.args.self.now in
    let mid = with_stack m c.push.new.self in
    passed_meets m mid c.argument.new.self c.args.first c.args.value
    (λ p k w. OfExpression (arguments (own p) c.args.n (parts_of (own p) (trees p c.args.rest.now)) (passed p (frames c.push.new.self)) k w (λ j xs k1 w1. calling_on p (own p) (called (frames c.push.new.self)) j xs k1 w1)))
    (λ p k w. OfExpression (arguments (own p) c.args.n (parts_of (own p) (trees p c.args.rest.now)) (passed p (frames m.stack) ++ argument (giving (tree p c.args.first.now) c.args.value) c.args.value ∷ []) k w (λ j xs k1 w1. calling_on p (own p) (called (frames m.stack)) j xs k1 w1)))
    c.argument.result c.in_ok-push.ensures refl refl (λ p k w. ap OfExpression (more_passed p (frames c.push.new.self) (frames m.stack) c.args.first c.args.value c.args.n (trees p c.args.rest.now) k w c.in_ok-push.ensures)) c.argument.ensures.same
