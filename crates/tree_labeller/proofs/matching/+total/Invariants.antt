use Rattle.std.proofs.Common.{◌+◌, ◌*◌}
use Rattle.lburg_model.specs.Pattern.{pattern_of, pattern_nodes}
use Rattle.tree_labeller.proofs.matching.+total.Given as goal

abbrev pub decreases-total_at : goal.decreases-total_at
decreases-total_at g l = 4 * pattern_nodes (pattern_of l.pattern.now)

abbrev pub decreases-unary_total_at : goal.decreases-unary_total_at
decreases-unary_total_at g l = 4 * pattern_nodes (pattern_of l.p.now) + 3

abbrev pub decreases-binary_total_at : goal.decreases-binary_total_at
decreases-binary_total_at g l = 4 * (pattern_nodes (pattern_of l.p.now) + pattern_nodes (pattern_of l.q.now)) + 3

abbrev pub decreases-part_total_at : goal.decreases-part_total_at
decreases-part_total_at g l = 4 * pattern_nodes (pattern_of l.pattern.now) + 2

abbrev pub decreases-nested_total_at : goal.decreases-nested_total_at
decreases-nested_total_at g l = 4 * pattern_nodes (pattern_of l.pattern.now) + 1
