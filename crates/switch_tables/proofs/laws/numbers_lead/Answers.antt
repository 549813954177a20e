use Rattle.switch_tables.proofs.lemmas.Searching.{numbers_lead}
use Rattle.switch_tables.proofs.laws.numbers_lead.Goals as goal

pub returns : goal.returns
returns c = numbers_lead
