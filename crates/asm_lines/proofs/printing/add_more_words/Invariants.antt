use Rattle.std.proofs.Common.{◌≡◌, ◌≤◌, ◌++◌, drop, take}
use Rattle.std.specs.Prelude.{All}
use Rattle.asm_lines.specs.Statements.{item_of}
use Rattle.asm_lines.specs.Printed.{item_text, more_text}
use Rattle.asm_lines.proofs.printing.add_more_words.Given as goal

abbrev pub invariant-loop-item : goal.invariant-loop-item
invariant-loop-item l = record {
  text : l.out ++ more_text (λ i. item_text (item_of i)) (drop l.item-index l.items) ≡ l.fn.out ++ more_text (λ i. item_text (item_of i)) l.items;
  within : All (λ i. i.value ≤ 4294967295) (take l.item-index l.items);
}
