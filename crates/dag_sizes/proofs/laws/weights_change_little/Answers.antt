use Rattle.dag_sizes.proofs.lemmas.Fewer.{fewer_weigh_less}
use Rattle.dag_sizes.proofs.lemmas.OneUse.{use_has_bound}
use Rattle.dag_sizes.proofs.lemmas.Swap.{swap_has_bound}
use Rattle.dag_sizes.proofs.laws.weights_change_little.Goals as goal

pub returns-clause-uses : goal.returns-clause-uses
returns-clause-uses c = use_has_bound

pub returns-clause-fewer : goal.returns-clause-fewer
returns-clause-fewer c = fewer_weigh_less

pub returns-clause-swaps : goal.returns-clause-swaps
returns-clause-swaps c = swap_has_bound
