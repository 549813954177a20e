use Rattle.dag_sizes.proofs.lemmas.Sizing.{split_has_size}
use Rattle.dag_sizes.proofs.lemmas.Weighing.{size_has_bound}
use Rattle.dag_sizes.proofs.laws.split_blocks_are_small.Goals as goal

pub returns-clause-size : goal.returns-clause-size
returns-clause-size c = split_has_size

pub returns-clause-bound : goal.returns-clause-bound
returns-clause-bound c = size_has_bound
