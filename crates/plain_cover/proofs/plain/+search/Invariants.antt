use Rattle.std.proofs.Common.{◌+◌, ◌*◌}
use Rattle.lburg_model.specs.Pattern.{pattern_of, pattern_nodes}
use Rattle.plain_cover.specs.Told.{told}
use Rattle.plain_cover.specs.IsLeastOf.{IsLeastOf}
use Rattle.plain_cover.specs.Within.{WithinFirst}
use Rattle.plain_cover.proofs.plain.+search.Given as goal

-- a rule's pattern has 16 nodes at most
abbrev pub decreases-best_by : goal.decreases-best_by
decreases-best_by g l = 20 * l.height + 20

abbrev pub decreases-best_parts : goal.decreases-best_parts
decreases-best_parts g l = 20 * l.height + 1 + pattern_nodes (pattern_of l.pattern.now)

abbrev pub decreases-best_within : goal.decreases-best_within
decreases-best_within g l = 20 * l.height + 1

abbrev pub invariant-best_within-loop-place : goal.invariant-best_within-loop-place
invariant-best_within-loop-place g l = IsLeastOf (told l.rules) (WithinFirst l.rules l.nonterminal (g.N.TreeNode.tree l.tree) l.height l.place) l.found
