use Rattle.std.proofs.Common.{◌*◌, ◌+◌}
use Rattle.lburg_model.specs.Pattern.{pattern_of}
use Rattle.tree_labeller.specs.Labelled.{cell, total}
use Rattle.tree_labeller.specs.Chosen.{cell_count, key_count, pattern_size, biggest}
use Rattle.reducer.proofs.reducer.+reduce.Given as goal

abbrev pub decreases-reduce_at : goal.decreases-reduce_at
decreases-reduce_at g l = 2 * (cell_count (cell l.labels.now.board.now.rows l.at l.n) * biggest l.labels.now.rules.now)

abbrev pub decreases-walk : goal.decreases-walk
decreases-walk g l = 2 * (key_count (total l.labels.now.board.now.rows (pattern_of l.pattern.now) (g.N.TreeNode.tree l.tree.now) l.at) * biggest l.labels.now.rules.now + pattern_size (pattern_of l.pattern.now))

abbrev pub decreases-walk_part : goal.decreases-walk_part
decreases-walk_part g l = 2 * (key_count (total l.labels.now.board.now.rows (pattern_of l.pattern.now) (g.N.TreeNode.tree l.tree.now) l.at) * biggest l.labels.now.rules.now + pattern_size (pattern_of l.pattern.now)) + 1
