use Rattle.std.proofs.Common.{◌+◌, ◌*◌, length}
use Rattle.lburg_trees.proofs.plain_tree.+plain.Given as goal

abbrev pub decreases-operands : goal.decreases-operands
decreases-operands l = 2 * length l.head.rest.now + 1

abbrev pub decreases-plain_kid : goal.decreases-plain_kid
decreases-plain_kid l = 2 * length l.bytes.now
