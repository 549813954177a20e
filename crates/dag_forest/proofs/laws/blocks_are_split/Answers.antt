use Rattle.dag_forest.proofs.Splits.{split_is}
use Rattle.dag_forest.proofs.laws.blocks_are_split.Goals as goal

pub returns : goal.returns
returns c = split_is
