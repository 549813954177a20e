use Rattle.switch_tables.proofs.lemmas.Searching.{tables_are_searched, searches_are_shallow}
use Rattle.switch_tables.proofs.laws.searches_are_short.Goals as goal

pub returns-clause-searched : goal.returns-clause-searched
returns-clause-searched c = tables_are_searched

pub returns-clause-shallow : goal.returns-clause-shallow
returns-clause-shallow c = searches_are_shallow
