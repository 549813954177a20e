use Rattle.std.proofs.Common.{◌≡◌, ◌+◌, ◌*◌, ◌-◌, drop, get_or, arith}
use Rattle.std.proofs.lemmas.List.{at_drop_more}
use Rattle.lcc_text.specs.Decimal.{value_behind}
use Rattle.lcc_text.proofs.Decimals.{grows}
use Rattle.lcc_text.proofs.decimal.decimal_value.Goals as goal

pub returns-then-value-most-clause-none : goal.returns-then-value-most-clause-none
returns-then-value-most-clause-none c =
    let l = c.loop-digit in
    let d = get_or c.args.digits.now l.digit-index 0 in
    let rest = drop (l.digit-index + 1) c.args.digits.now in
    let step : value_behind l.value (drop l.digit-index c.args.digits.now) ≡ value_behind (10 * l.value + (d - 48)) rest = at_drop_more (value_behind l.value) c.args.digits.now l.digit-index 0 (omega arith) in
    let more = grows (10 * l.value + (d - 48)) rest in
    omega arith
