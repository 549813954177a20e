use Rattle.std.proofs.Common.{◌≡◌, map, take}
use Rattle.asm_text.specs.declared.datum.Datum.TheVariants.{Byte}
use Rattle.asm_text.specs.Added.{with_data}
use Rattle.asm_text.proofs.assembly.Assembly.add_bytes.Given as goal

abbrev pub invariant-loop-byte : goal.invariant-loop-byte
invariant-loop-byte l = l.self ≡ with_data l.fn.self (map (λ n. Byte n) (take l.byte-index l.bytes))
