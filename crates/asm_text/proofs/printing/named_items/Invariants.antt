use Rattle.std.proofs.Common.{◌≡◌, map, take}
use Rattle.asm_lines.specs.Statements.{item_of, item_by}
use Rattle.asm_text.specs.Names.{name_at}
use Rattle.asm_text.proofs.printing.named_items.Given as goal

abbrev pub invariant-loop-item : goal.invariant-loop-item
invariant-loop-item l = map item_of l.found.items ≡ map (item_by (name_at l.names)) (take l.item-index l.items)
