use Rattle.std.specs.Prelude.{[], ◌∷◌, ◌++◌, ◌+◌, slice_get}
use Rattle.std.proofs.Common.{ap}
use Rattle.c_runs.specs.Expressions.{argument, arguments, copied_to, parts_of}
use Rattle.c_worlds.specs.Programs.{tree, trees}
use Rattle.c_worlds.specs.Shown.{giving}
use Rattle.c_eval.specs.Ends.{OfExpression}
use Rattle.c_eval.specs.Frames.{frames}
use Rattle.c_eval.specs.Stacks.{called, calling_on, passed}
use Rattle.c_eval.specs.States.{own}
use Rattle.c_eval.specs.Steps.{Meets}
use Rattle.c_eval.proofs.Meeting.{meets_at, meets_behind, puts, stop_meets, with_world}
use Rattle.c_eval.proofs.Passing.{copied, copy_stops}
use Rattle.c_eval.proofs.machine.Machine.pass_copy.Goals as goal

pub returns-in-Ok-clause-same : goal.returns-in-Ok-clause-same
returns-in-Ok-clause-same c =
    let p = c.args.program.now in
    let m = c.args.self.now in
    let fs = frames m.stack in
    let a = c.args.first.now in
    let v = c.args.value in
    let copy = c.in-Ok.copy in
    let mid = with_world m c.copy_argument.new.world in
    meets_behind p m mid c.pass_on.new.self
    (λ k w. OfExpression (arguments (own p) (c.args.n + 1) (parts_of (own p) (trees p c.args.rest.now)) (passed p fs ++ argument (giving (tree p a) copy) copy ∷ []) k w (λ j xs k1 w1. calling_on p (own p) (called fs) j xs k1 w1)))
    (λ k w. OfExpression (copied_to (own p) (slice_get w.locals c.args.n) (giving (tree p a) v) v k w (λ x k1 w1. arguments (own p) (c.args.n + 1) (parts_of (own p) (trees p c.args.rest.now)) (passed p fs ++ x ∷ []) k1 w1 (λ j xs k2 w2. calling_on p (own p) (called fs) j xs k2 w2))))
    c.pass_on.result (puts m c.copy_argument.new.world c.copy_argument.ensures.stays.1)
    (λ t. ap OfExpression (copied p a c.args.n v copy m.world c.copy_argument.new.world (λ x k1 w1. arguments (own p) (c.args.n + 1) (parts_of (own p) (trees p c.args.rest.now)) (passed p fs ++ x ∷ []) k1 w1 (λ j xs k2 w2. calling_on p (own p) (called fs) j xs k2 w2)) c.in-Ok.ensures.copies m.turns t))
    (meets_at p (λ q focus. Meets q mid (λ k w. OfExpression (arguments (own q) (c.args.n + 1) (parts_of (own q) (trees q c.args.rest.now)) (passed q fs ++ argument (giving (tree q a) copy) copy ∷ []) k w (λ j xs k1 w1. calling_on q (own q) (called fs) j xs k1 w1))) c.pass_on.new.self focus) c.pass_on.result c.pass_on.ensures.same)

pub returns-in-Err-clause-same : goal.returns-in-Err-clause-same
returns-in-Err-clause-same c =
    let p = c.args.program.now in
    let m = c.args.self.now in
    let fs = frames m.stack in
    let a = c.args.first.now in
    let v = c.args.value in
    stop_meets p m (with_world m c.copy_argument.new.world)
    (λ k w. copied_to (own p) (slice_get w.locals c.args.n) (giving (tree p a) v) v k w (λ x k1 w1. arguments (own p) (c.args.n + 1) (parts_of (own p) (trees p c.args.rest.now)) (passed p fs ++ x ∷ []) k1 w1 (λ j xs k2 w2. calling_on p (own p) (called fs) j xs k2 w2)))
    (λ k w. copied_to (own p) (slice_get w.locals c.args.n) (giving (tree p a) v) v k w (λ x k1 w1. arguments (own p) (c.args.n + 1) (parts_of (own p) (trees p c.args.rest.now)) (passed p fs ++ x ∷ []) k1 w1 (λ j xs k2 w2. calling_on p (own p) (called fs) j xs k2 w2)))
    c.in-Err.stop c.stopped.result (puts m c.copy_argument.new.world c.copy_argument.ensures.stays.1) (λ k w how x d. d)
    (copy_stops p a c.args.n v m.world c.copy_argument.new.world (λ x k1 w1. arguments (own p) (c.args.n + 1) (parts_of (own p) (trees p c.args.rest.now)) (passed p fs ++ x ∷ []) k1 w1 (λ j xs k2 w2. calling_on p (own p) (called fs) j xs k2 w2)) c.in-Err.stop c.in-Err.ensures.copies) c.stopped.ensures
