use Rattle.std.proofs.Common.{◌+◌, ◌*◌, length}
use Rattle.lburg_trees.proofs.tree_reader.+tree.Given as goal

abbrev pub decreases-operands : goal.decreases-operands
decreases-operands l = 2 * length l.head.rest.now + 1

abbrev pub decreases-tree_at : goal.decreases-tree_at
decreases-tree_at l = 2 * length l.tokens.now
