use Rattle.lburg_lines.proofs.Trees.{same_tree}
use Rattle.lburg_lines.proofs.tree_reader.one_tree.Goals as goal

pub returns : goal.returns
returns c = same_tree
