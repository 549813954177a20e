use Rattle.dag_seam.proofs.lemmas.Means.{split_means, turns_mean}
use Rattle.dag_seam.proofs.splits.split_trees_mean.Goals as goal

pub returns-clause-acts : goal.returns-clause-acts
returns-clause-acts c = split_means c.trees_do_what_blocks_do.ensures.meaning

pub returns-clause-turns : goal.returns-clause-turns
returns-clause-turns c = turns_mean c.trees_do_what_blocks_do.ensures.meaning
