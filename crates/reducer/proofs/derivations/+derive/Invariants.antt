use Rattle.std.proofs.Common.{◌*◌, ◌+◌}
use Rattle.lburg_model.specs.Pattern.{pattern_of}
use Rattle.tree_labeller.specs.Labelled.{cell, total}
use Rattle.tree_labeller.specs.Chosen.{cell_count, key_count, pattern_size, biggest}
use Rattle.reducer.proofs.derivations.+derive.Given as goal

abbrev pub decreases-derivation_at : goal.decreases-derivation_at
decreases-derivation_at g l = cell_count (cell l.labels.now.board.now.rows l.at l.n) * biggest l.labels.now.rules.now

abbrev pub decreases-add_parts : goal.decreases-add_parts
decreases-add_parts g l = key_count (total l.labels.now.board.now.rows (pattern_of l.pattern.now) (g.N.TreeNode.tree l.tree.now) l.at) * biggest l.labels.now.rules.now + pattern_size (pattern_of l.pattern.now)
