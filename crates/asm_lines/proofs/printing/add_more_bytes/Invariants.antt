use Rattle.std.proofs.Common.{◌≡◌, ◌++◌, drop, decimal}
use Rattle.asm_lines.specs.Printed.{more_text}
use Rattle.asm_lines.proofs.printing.add_more_bytes.Given as goal

abbrev pub invariant-loop-byte : goal.invariant-loop-byte
invariant-loop-byte l = l.out ++ more_text decimal (drop l.byte-index l.bytes) ≡ l.fn.out ++ more_text decimal l.bytes
