use Rattle.lburg_model.specs.Tree.{nodes}
use Rattle.plain_cover.proofs.plain.+room_of.Given as goal

abbrev pub decreases-room_of : goal.decreases-room_of
decreases-room_of g l = nodes (g.N.TreeNode.tree l.tree.now)
