use Rattle.switch_tables.proofs.lemmas.Cutting.{joined_cut}
use Rattle.switch_tables.proofs.lemmas.Greedy.{cut_is_greedy, only_cut}
use Rattle.switch_tables.proofs.laws.cases_are_cut.Goals as goal

pub returns-clause-cut : goal.returns-clause-cut
returns-clause-cut c = joined_cut

pub returns-clause-greedy : goal.returns-clause-greedy
returns-clause-greedy c = cut_is_greedy

pub returns-clause-only : goal.returns-clause-only
returns-clause-only c = only_cut
