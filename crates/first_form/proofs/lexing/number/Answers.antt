use Rattle.std.proofs.Common.{◌∙◌, arith}
use Rattle.first_form.proofs.Numbers.{too_great, not_numeral}
use Rattle.first_form.proofs.lexing.number.Goals as goal

pub returns-in_default-clause-none : goal.returns-in_default-clause-none
returns-in_default-clause-none c = λ n h e. too_great c.args.token.now 2147483647 n (omega arith) c.in_default.ensures.none h e

pub returns-else-eq-clause-none : goal.returns-else-eq-clause-none
returns-else-eq-clause-none c = λ n h e.
    not_numeral c.args.token.now c.as_bytes.result.now c.eq.result 2147483647 c.in-Some.number n (omega arith) c.in-Some.ensures.some.0 (c.as_bytes.ensures.value ∙ c.format.ensures.text) c.eq.ensures c.if-eq.false h e
