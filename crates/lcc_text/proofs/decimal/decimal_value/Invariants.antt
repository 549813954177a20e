use Rattle.std.proofs.Common.{◌≡◌, ◌≤◌, drop}
use Rattle.lcc_text.specs.Decimal.{value_of, value_behind}
use Rattle.lcc_text.proofs.decimal.decimal_value.Given as goal

abbrev pub invariant-loop-digit : goal.invariant-loop-digit
invariant-loop-digit l = record {
  within : l.value ≤ l.most;
  rest : value_behind l.value (drop l.digit-index l.digits) ≡ value_of l.digits;
}
