use Rattle.std.proofs.Common.{◌∙◌, ℕ, List, Some, refl, sym, ap, arith}
use Rattle.c_readings.specs.Reading.{one_sign, gives}
use Rattle.c_readings.specs.Readers.{name_list, parameter_name}
use Rattle.c_expr.specs.Answers.{at}
use Rattle.c_expr.proofs.Exits.{err, if_err, passed}
use Rattle.c_readings.proofs.lemmas.Loops.{commas_start, commas_go, commas_stop, commas_end}
use Rattle.c_expr.proofs.Loops.{fewer}
use Rattle.c_expr.proofs.parameters.names_at.Goals as goal

pub returns-in_err-begun-clause-none : goal.returns-in_err-begun-clause-none
unfolding name_list
returns-in_err-begun-clause-none c = passed c.from_residual.result c.from_residual.ensures.1 (err c.in_err-begun.ensures.none (λ z. rw z refl))

pub loop-behind-init : goal.loop-behind-init
unfolding name_list
loop-behind-init c = (
  c.in_ok-begun.ensures.shorter,
  rw (c.in_ok-push.ensures.ok, c.new-list.ensures) (commas_start parameter_name (λ ns t. one_sign 3 t (λ u. gives ns u)) (name_list (at c.args.names.now c.args.text.now c.args.tokens.now)) (at c.args.names.now c.args.text.now c.args.tokens.now) c.in_ok-begun.begun (at c.parameter_name.new.names c.args.text.now c.in_ok-begun.rest.now) refl c.in_ok-begun.ensures.ok),
)

pub returns-in_err-other-clause-none : goal.returns-in_err-other-clause-none
returns-in_err-other-clause-none c = passed c.from_residual-in_err-other.result c.from_residual-in_err-other.ensures.1 (err c.in_err-other.ensures.none (λ z. commas_stop c.loop-behind.invariant.1 c.in-Some.ensures.next (rw c.in-Some.ensures.rest z)))

pub loop-behind-preserved : goal.loop-behind-preserved
loop-behind-preserved c = (
  omega (arith, c.loop-behind.invariant.0, c.in-Some.ensures.shorter, c.in_ok-other.ensures.shorter),
  rw c.in_ok-push-2.ensures.ok (commas_go c.loop-behind.invariant.1 c.in-Some.ensures.next (rw c.in-Some.ensures.rest c.in_ok-other.ensures.ok) (fewer c.args.text.now c.in_ok-other.end.now c.loop-behind.rest.now (omega (arith, c.in-Some.ensures.shorter, c.in_ok-other.ensures.shorter)))),
)

pub returns-in_err-expect-clause-none : goal.returns-in_err-expect-clause-none
returns-in_err-expect-clause-none c = if_err c.from_residual-in_err-expect.result (commas_end c.loop-behind.invariant.1 c.in_default.ensures.none ∙ rw c.in_err-expect.ensures.none refl)

pub returns-clause-ok : goal.returns-clause-ok
returns-clause-ok c = commas_end c.loop-behind.invariant.1 c.in_default.ensures.none ∙ rw (c.in_ok-expect.ensures.next, c.in_ok-expect.ensures.rest) (ap (λ (l : List (List ℕ)). Some (l, at c.loop-behind.names c.args.text.now c.in_ok-expect.field-0.now)) (sym c.list-3.view_is))
