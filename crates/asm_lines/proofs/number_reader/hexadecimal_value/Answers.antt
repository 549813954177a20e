use Rattle.std.proofs.Common.{◌≡◌, ◌+◌, ◌*◌, drop, get_or, arith}
use Rattle.std.proofs.lemmas.List.{at_drop_more}
use Rattle.asm_lines.specs.Numbers.{digit_value, hex_behind}
use Rattle.asm_lines.proofs.NumberReads.{hex_grows}
use Rattle.asm_lines.proofs.number_reader.hexadecimal_value.Goals as goal

pub returns-then-value-from-clause-none : goal.returns-then-value-from-clause-none
returns-then-value-from-clause-none c =
    let l = c.loop-digit in
    let d = get_or c.args.digits.now l.digit-index 0 in
    let rest = drop (l.digit-index + 1) c.args.digits.now in
    let step : hex_behind l.value (drop l.digit-index c.args.digits.now) ≡ hex_behind (16 * l.value + digit_value d) rest = at_drop_more (hex_behind l.value) c.args.digits.now l.digit-index 0 (omega arith) in
    let more = hex_grows (16 * l.value + digit_value d) rest in
    omega arith
