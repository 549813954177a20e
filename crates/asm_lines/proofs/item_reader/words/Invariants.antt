use Rattle.std.proofs.Common.{◌≤◌, ◌-◌, length, drop, map}
use Rattle.asm_lines.specs.Statements.{item_of}
use Rattle.asm_lines.specs.Tokens.{views}
use Rattle.asm_lines.specs.Operands.{IsWordItem}
use Rattle.asm_lines.proofs.ItemReads.{Found}
use Rattle.asm_lines.proofs.item_reader.words.Given as goal

abbrev pub invariant-loop-placed : goal.invariant-loop-placed
invariant-loop-placed l = record {
  within : l.at ≤ length l.tokens;
  found : Found IsWordItem (views l.tokens) (map item_of l.items) (views (drop l.at l.tokens));
}

abbrev pub decreases-loop-placed : goal.decreases-loop-placed
decreases-loop-placed l = length l.tokens - l.at
