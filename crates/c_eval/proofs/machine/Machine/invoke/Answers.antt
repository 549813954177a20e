use Rattle.std.specs.Prelude.{Some}
use Rattle.std.proofs.Common.{sym, subst}
use Rattle.std.specs.Borrow.{Bor}
use Rattle.objects.specs.declared.value.Value.{Value}
use Rattle.c_meaning.specs.declared.core_expr.CoreExpr.{CoreExpr}
use Rattle.std.proofs.lemmas.Result.{IfOk-weaker}
use Rattle.c_eval.specs.Frames.{frames}
use Rattle.c_eval.specs.Steps.{IsTaken}
use Rattle.c_eval.proofs.Invoking.{call_leads, no_call_leads}
use Rattle.c_eval.proofs.machine.Machine.invoke.Goals as goal

pub returns-in-None-clause-leads : goal.returns-in-None-clause-leads
returns-in-None-clause-leads c = no_call_leads c.args.program.now c.args.self.now c.take_call.new.self c.args.n c.stray.result c.take_call.ensures.world c.take_call.ensures.turns (rw c.in-None.is at c.in_ok-take_call.ensures.taken c.args.program.now) c.stray.ensures

pub returns-in-Some-clause-leads : goal.returns-in-Some-clause-leads
returns-in-Some-clause-leads c =
    let p = c.args.program.now in
    let old = c.args.self.now in
    let mid = c.take_call.new.self in
    let found : Bor CoreExpr × Value = (c.in-Some.call, c.in-Some.value) in
    let taken = subst (λ xs. IsTaken p (frames old.stack) (frames mid.stack) xs (Some found)) (sym c.deref-passed.ensures.value) (rw c.in-Some.is at c.in_ok-take_call.ensures.taken p) in
    IfOk-weaker c.make_call.result _ _ (λ focus h. call_leads p old mid c.make_call.new.self c.args.n c.deref-passed.result.now found focus c.take_call.ensures.world c.take_call.ensures.turns taken h) c.make_call.ensures.reaches
