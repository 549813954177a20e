use Rattle.std.proofs.Common.{refl, sym}
use Rattle.c_runs.specs.Outcomes.{Next}
use Rattle.c_eval.specs.declared.focus.Focus.TheVariants as at
use Rattle.c_eval.specs.Ends.{OfStatement}
use Rattle.c_eval.proofs.Acts.{popped, with_stack}
use Rattle.c_eval.proofs.Behind.{next_passes, passes_next}
use Rattle.c_eval.proofs.machine.Machine.next.Goals as goal

pub returns-in_default-frame-clause-reaches : goal.returns-in_default-frame-clause-reaches
returns-in_default-frame-clause-reaches c =
    let a = c.args in
    let p = a.program.now in
    let x = c.in_default-frame in
    let f = c.in-Some.frame in
    λ t q. (
      t,
      q,
      popped p a.self.now (with_stack a.self.now c.pop.new.self) (λ k w. OfStatement (Next k w)) at.Next f c.in-Some.ensures.some refl refl
          (λ below fs k w. sym (next_passes p below fs f k w (passes_next f x.not-Then x.not-Body x.not-Activation))) t,
    )
