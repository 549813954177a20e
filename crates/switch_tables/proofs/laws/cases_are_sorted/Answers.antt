use Rattle.switch_tables.proofs.lemmas.Ranks.{less_by_rank}
use Rattle.switch_tables.proofs.lemmas.Sorting.{same_rising}
use Rattle.switch_tables.proofs.laws.cases_are_sorted.Goals as goal

pub returns-clause-ranked : goal.returns-clause-ranked
returns-clause-ranked c = less_by_rank

pub returns-clause-same : goal.returns-clause-same
returns-clause-same c = same_rising
