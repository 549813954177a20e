use Rattle.std.proofs.Common.{◌≡◌, map, take}
use Rattle.asm_lines.specs.Statements.{item_of}
use Rattle.asm_text.specs.Added.{with_words}
use Rattle.asm_text.proofs.assembly.Assembly.add_words.Given as goal

abbrev pub invariant-loop-item : goal.invariant-loop-item
invariant-loop-item l = l.self ≡ with_words l.fn.self l.line (take l.item-index (map item_of l.items))
