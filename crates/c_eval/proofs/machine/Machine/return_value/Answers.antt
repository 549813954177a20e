use Rattle.std.proofs.Common.{refl, ap, ◌∙◌, arith}
use Rattle.std.specs.Prelude.{◌∷◌, Ok, Some, None}
use Rattle.c_meaning.specs.CoreTrees.{line_of}
use Rattle.c_runs.specs.Expressions.{eval}
use Rattle.c_runs.specs.Outcomes.{Return, then_do}
use Rattle.c_worlds.specs.Programs.{tree}
use Rattle.c_eval.specs.declared.frame.Frame.TheVariants as on
use Rattle.c_eval.specs.Frames.{frames}
use Rattle.c_eval.specs.States.{own}
use Rattle.c_eval.proofs.Acts.{comes_own, plain_stops, with_stack, with_world}
use Rattle.c_eval.proofs.Returns.{fewer_left, return_waits}
use Rattle.c_eval.proofs.StatementSteps.{nothing_meets, value_returned}
use Rattle.c_eval.proofs.machine.Machine.return_value.Goals as goal

pub returns-in-Some-Ok-Some-clause-same : goal.returns-in-Some-Ok-Some-clause-same
returns-in-Some-Ok-Some-clause-same c =
    let a = c.args in
    let x = c.in-Some-Ok-Some in
    let w = c.value_at_once.new.world in
    value_returned a.program.now a.self.now (with_world a.self.now w) a.e.now x.value c.e.inside.line (ap line_of c.e.view_is) x.ensures.stays.1 refl refl
    (comes_own a.program.now a.e.now a.self.now.world w (Ok (Some x.value)) (let h = rw x.field-0-is at x.ensures.comes in rw x.field-0-0-is at h))

pub returns-in-Some-Ok-None-clause-same : goal.returns-in-Some-Ok-None-clause-same
returns-in-Some-Ok-None-clause-same c =
    let a = c.args in
    let x = c.in-Some-Ok-None in
    let w = c.value_at_once.new.world in
    nothing_meets a.program.now a.self.now (with_world a.self.now w) (λ k v. eval (own a.program.now) (tree a.program.now a.e.now) k v) (λ r. then_do r (λ u k1 w1. Return (Some u) (line_of a.e.now) k1 w1)) c.no_result.result x.ensures.stays.1 refl refl
    (λ k v. refl) (comes_own a.program.now a.e.now a.self.now.world w (Ok None) (let h = rw x.field-0-is at x.ensures.comes in rw x.field-0-0-is at h)) c.no_result.ensures

pub returns-in-Some-Err-clause-same : goal.returns-in-Some-Err-clause-same
returns-in-Some-Err-clause-same c =
    let a = c.args in
    let x = c.in-Some-Err in
    plain_stops a.program.now a.self.now c.value_at_once.new.world a.e.now (λ r. then_do r (λ u k1 w1. Return (Some u) (line_of a.e.now) k1 w1)) x.stop c.stopped.result (λ how w. refl) x.ensures.stays.1 (rw x.field-0-is at x.ensures.comes) c.stopped.ensures

pub returns-in_ok-push-in-None-clause-same : goal.returns-in_ok-push-in-None-clause-same
returns-in_ok-push-in-None-clause-same c =
    let a = c.args in
    let new = with_world (with_stack a.self.now c.push.new.self) c.value_at_once.new.world in
    return_waits a.program.now a.self.now new a.e (c.in_ok-push-in-None.ensures ∙ ap (λ fs. on.Return a.e ∷ fs) c.in_ok-to_call-in-None.ensures) c.in-None.ensures.same refl

pub returns-in_ok-push-in-None-clause-less : goal.returns-in_ok-push-in-None-clause-less
returns-in_ok-push-in-None-clause-less c =
    let a = c.args in
    let f = c.in_ok-push-in-None.ensures ∙ ap (λ fs. on.Return a.e ∷ fs) c.in_ok-to_call-in-None.ensures in
    let left = fewer_left (frames a.self.now.stack) in
    rw f (omega (arith, left))
