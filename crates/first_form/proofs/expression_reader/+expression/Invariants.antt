use Rattle.std.proofs.Common.{◌≡◌, ◌+◌, ◌*◌, ◌-◌, ◌≤◌, length}
use Rattle.first_form.specs.Expression.{expression_of}
use Rattle.first_form.specs.Height.{height}
use Rattle.first_form.specs.Readings.{level_number}
use Rattle.first_form.proofs.Chains.{Chained}
use Rattle.first_form.proofs.expression_reader.+expression.Given as goal

abbrev pub decreases-unary_at : goal.decreases-unary_at
decreases-unary_at l = 6 * length l.bytes.now

abbrev pub decreases-operand_at : goal.decreases-operand_at
decreases-operand_at l = 6 * length l.bytes.now + 3 - 2 * level_number l.level

abbrev pub decreases-chain_at : goal.decreases-chain_at
decreases-chain_at l = 6 * length l.bytes.now + 4 - 2 * level_number l.level

abbrev pub invariant-chain_at-loop-operator : goal.invariant-chain_at-loop-operator
invariant-chain_at-loop-operator l = record {
  chained : Chained (level_number l.level) l.bytes (expression_of l.left.expression) l.left.rest.now;
  height : l.left.height ≡ height (expression_of l.left.expression);
  low : l.left.height ≤ l.limit;
  shorter : length l.left.rest.now + 1 ≤ length l.bytes;
}

abbrev pub decreases-chain_at-loop-operator : goal.decreases-chain_at-loop-operator
decreases-chain_at-loop-operator l = length l.left.rest.now
