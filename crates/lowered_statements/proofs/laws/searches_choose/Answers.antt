use Rattle.lowered_statements.proofs.lemmas.Choosing.{chosen_is_found, chosen_is_label}
use Rattle.lowered_statements.proofs.laws.searches_choose.Goals as goal

pub returns-clause-labels : goal.returns-clause-labels
returns-clause-labels c = chosen_is_label

pub returns-clause-found : goal.returns-clause-found
returns-clause-found c = chosen_is_found
