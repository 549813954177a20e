use Rattle.std.proofs.Common.{◌≡◌, map, take}
use Rattle.asm_text.specs.declared.datum.Datum.TheVariants.{Half}
use Rattle.asm_text.specs.Added.{with_data}
use Rattle.asm_text.proofs.assembly.Assembly.add_halves.Given as goal

abbrev pub invariant-loop-half : goal.invariant-loop-half
invariant-loop-half l = l.self ≡ with_data l.fn.self (map (λ n. Half n) (take l.half-index l.halves))
