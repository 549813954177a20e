use Rattle.std.proofs.Common.{◌≡◌, ◌++◌, drop, decimal}
use Rattle.asm_lines.specs.Printed.{more_text}
use Rattle.asm_lines.proofs.printing.add_more_halves.Given as goal

abbrev pub invariant-loop-half : goal.invariant-loop-half
invariant-loop-half l = l.out ++ more_text decimal (drop l.half-index l.halves) ≡ l.fn.out ++ more_text decimal l.halves
