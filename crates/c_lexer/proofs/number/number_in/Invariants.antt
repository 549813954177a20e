use Rattle.std.proofs.Common.{◌≡◌, ◌≤◌, drop}
use Rattle.c_lexer.specs.Numbers.{value_behind}
use Rattle.c_lexer.proofs.number.number_in.Given as goal

abbrev pub invariant-loop-digit : goal.invariant-loop-digit
invariant-loop-digit l = record {
  small : l.value ≤ 4294967295;
  same : value_behind l.base 0 l.digits ≡ value_behind l.base l.value (drop l.digit-index l.digits);
}
