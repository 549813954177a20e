use Rattle.std.proofs.Common.{◌≡◌, length, map, take}
use Rattle.asm_lines.specs.Statements.{item_of, item_by}
use Rattle.asm_text.specs.Grown.{HasGrown}
use Rattle.asm_text.specs.LineTable.{numbers_of_items}
use Rattle.asm_text.specs.Names.{name_at}
use Rattle.asm_text.specs.ProgramTable.{AreBelow}
use Rattle.asm_text.proofs.lines.kept_items.Given as goal

abbrev pub invariant-loop-item : goal.invariant-loop-item
invariant-loop-item l = record {
  grown : HasGrown l.fn.names l.names;
  below : AreBelow (length l.names) (numbers_of_items l.found);
  same : map (item_by (name_at l.names)) l.found ≡ map item_of (take l.item-index l.item-items);
}
