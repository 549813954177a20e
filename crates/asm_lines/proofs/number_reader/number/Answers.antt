use Rattle.std.proofs.Common.{◌≡◌, ◌∷◌, rules}
use Rattle.asm_lines.proofs.NumberReads.{plain_read, hex_read, minus_some, minus_none}
use Rattle.asm_lines.proofs.number_reader.number.Goals as goal

pub returns-in_ok-decimal_value-in-Decimal-clause-some :
    goal.returns-in_ok-decimal_value-in-Decimal-clause-some
returns-in_ok-decimal_value-in-Decimal-clause-some c =
    let e : c.args.tokens.now ≡ c.in_ok-first.first.now ∷ c.in_ok-first.rest.now = search rules in
    plain_read c.args.tokens.now c.in_ok-first.rest.now c.in_ok-first.first.now _ e c.in-Decimal.is c.in_ok-decimal_value-in-Decimal.ensures.some.0 c.in_ok-decimal_value-in-Decimal.ensures.some.1

pub returns-in_ok-hexadecimal_value-in-Hexadecimal-clause-some :
    goal.returns-in_ok-hexadecimal_value-in-Hexadecimal-clause-some
returns-in_ok-hexadecimal_value-in-Hexadecimal-clause-some c =
    let e : c.args.tokens.now ≡ c.in_ok-first.first.now ∷ c.in_ok-first.rest.now = search rules in
    hex_read c.args.tokens.now c.in_ok-first.rest.now c.in_ok-first.first.now _ e c.in-Hexadecimal.is c.in_ok-hexadecimal_value-in-Hexadecimal.ensures.some.0 c.in_ok-hexadecimal_value-in-Hexadecimal.ensures.some.1

pub returns-in-Minus-clause-some : goal.returns-in-Minus-clause-some
returns-in-Minus-clause-some c =
    let e : c.args.tokens.now ≡ c.in_ok-first.first.now ∷ c.in_ok-first.rest.now = search rules in
    minus_some c.args.tokens.now c.in_ok-first.rest.now c.in_ok-first.first.now c.negative.result e c.in-Minus.is c.negative.ensures.some

pub returns-in-Minus-clause-none : goal.returns-in-Minus-clause-none
returns-in-Minus-clause-none c =
    let e : c.args.tokens.now ≡ c.in_ok-first.first.now ∷ c.in_ok-first.rest.now = search rules in
    minus_none c.args.tokens.now c.in_ok-first.rest.now c.in_ok-first.first.now c.negative.result e c.in-Minus.is c.negative.ensures.none
