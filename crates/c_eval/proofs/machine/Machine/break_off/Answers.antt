use Rattle.std.proofs.Common.{refl, sym, ap}
use Rattle.c_meaning.specs.CoreTrees.{line_of}
use Rattle.c_runs.specs.Outcomes.{Break}
use Rattle.c_eval.specs.declared.focus.Focus.TheVariants as at
use Rattle.c_eval.specs.Ends.{OfStatement}
use Rattle.c_eval.proofs.Acts.{popped, with_stack}
use Rattle.c_eval.proofs.Behind.{break_passes, break_strays, passes_break, strays}
use Rattle.c_eval.proofs.machine.Machine.break_off.Goals as goal

pub returns-in-Activation-clause-same : goal.returns-in-Activation-clause-same
returns-in-Activation-clause-same c = λ p.
    let a = c.args in
    let x = c.in-Activation in
    strays p a.self.now (with_stack a.self.now c.pop.new.self) (λ k w. OfStatement (Break k w)) x.call x.field-1 x.field-2 x.field-3 c.call.inside.line c.stray-in-Activation.result (rw x.is at c.in-Some.ensures.some) refl refl
    c.stray-in-Activation.ensures (ap line_of c.call.view_is) (λ below fs k w. break_strays p below fs x.call x.field-1 x.field-2 x.field-3 k w)

pub returns-in_default-frame-clause-same : goal.returns-in_default-frame-clause-same
returns-in_default-frame-clause-same c = λ p.
    let a = c.args in
    let x = c.in_default-frame in
    let f = c.in-Some.frame in
    popped p a.self.now (with_stack a.self.now c.pop.new.self) (λ k w. OfStatement (Break k w)) at.Break f c.in-Some.ensures.some refl refl
    (λ below fs k w. sym (break_passes p below fs f k w (passes_break f x.not-Body x.not-Switched x.not-Activation)))
