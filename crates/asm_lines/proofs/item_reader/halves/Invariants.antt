use Rattle.std.proofs.Common.{◌≤◌, ◌-◌, length, drop}
use Rattle.asm_lines.specs.Tokens.{views}
use Rattle.asm_lines.specs.Operands.{IsPartItem}
use Rattle.asm_lines.proofs.ItemReads.{Found}
use Rattle.asm_lines.proofs.item_reader.halves.Given as goal

abbrev pub invariant-loop-value : goal.invariant-loop-value
invariant-loop-value l = record {
  within : l.at ≤ length l.tokens;
  found : Found (IsPartItem 16) (views l.tokens) (l.halves) (views (drop l.at l.tokens));
}

abbrev pub decreases-loop-value : goal.decreases-loop-value
decreases-loop-value l = length l.tokens - l.at
