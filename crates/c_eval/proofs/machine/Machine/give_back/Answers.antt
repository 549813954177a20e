use Rattle.std.proofs.Common.{refl, sym}
use Rattle.c_runs.specs.Outcomes.{Return}
use Rattle.c_eval.specs.declared.focus.Focus.TheVariants as at
use Rattle.c_eval.specs.Ends.{OfStatement}
use Rattle.c_eval.proofs.Acts.{popped, with_stack}
use Rattle.c_eval.proofs.Behind.{passes_return, return_passes}
use Rattle.c_eval.proofs.Leaving.{return_reaches}
use Rattle.c_eval.proofs.machine.Machine.give_back.Goals as goal

pub returns-in_default-frame-clause-reaches : goal.returns-in_default-frame-clause-reaches
returns-in_default-frame-clause-reaches c =
    let a = c.args in
    let p = a.program.now in
    let x = c.in_default-frame in
    let f = c.in-Some.frame in
    λ t q. (
      t,
      q,
      popped p a.self.now (with_stack a.self.now c.pop.new.self) (λ k w. OfStatement (Return a.value a.line k w)) (at.Return a.value a.line) f c.in-Some.ensures.some refl refl
          (λ below fs k w. sym (return_passes p below fs f a.value a.line k w (passes_return f x.not-Activation))) t,
    )

pub returns-in-Activation-clause-reaches : goal.returns-in-Activation-clause-reaches
returns-in-Activation-clause-reaches c =
    let a = c.args in
    let x = c.in-Activation in
    return_reaches a.program.now x.call x.result x.objects x.base a.value a.line a.self.now (with_stack a.self.now c.pop.new.self) c.leave.new.self c.leave.result (rw x.is at c.in-Some.ensures.some) refl refl c.leave.ensures.resumes
