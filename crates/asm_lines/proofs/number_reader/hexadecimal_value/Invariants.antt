use Rattle.std.proofs.Common.{◌≡◌, ◌≤◌, drop}
use Rattle.asm_lines.specs.Numbers.{hex_value, hex_behind}
use Rattle.asm_lines.proofs.number_reader.hexadecimal_value.Given as goal

abbrev pub invariant-loop-digit : goal.invariant-loop-digit
invariant-loop-digit l = record {
  within : l.value ≤ 4294967295;
  rest : hex_behind l.value (drop l.digit-index l.digits) ≡ hex_value l.digits;
}
