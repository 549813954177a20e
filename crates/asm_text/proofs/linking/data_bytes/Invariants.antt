use Rattle.std.proofs.Common.{◌≡◌, take}
use Rattle.asm_text.specs.Linked.{address_in, all_bytes}
use Rattle.asm_text.proofs.linking.data_bytes.Given as goal

abbrev pub invariant-loop-datum : goal.invariant-loop-datum
invariant-loop-datum l = l.out.items ≡ all_bytes l.order (address_in l.addresses) (take l.datum-index l.datums)
