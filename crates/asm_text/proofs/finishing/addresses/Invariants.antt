use Rattle.std.proofs.Common.{◌≡◌, map, take}
use Rattle.std.specs.Prelude.{All}
use Rattle.asm_text.specs.Addresses.{IsKnown}
use Rattle.asm_text.specs.Linked.{linked_name}
use Rattle.asm_text.specs.Uses.{used_names}
use Rattle.asm_text.proofs.finishing.addresses.Given as goal

abbrev pub invariant-loop-number : goal.invariant-loop-number
invariant-loop-number l = record {
  addressed : l.found.items ≡ map (linked_name l.labels) (used_names (take l.number l.uses));
  known : All (λ u. IsKnown l.labels u.name) (take l.number l.uses);
}
