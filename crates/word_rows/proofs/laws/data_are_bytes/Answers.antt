use Rattle.word_rows.proofs.lemmas.Data.{item_is, data_are, units_stand}
use Rattle.word_rows.proofs.laws.data_are_bytes.Goals as goal

pub returns-clause-items : goal.returns-clause-items
returns-clause-items c = item_is

pub returns-clause-objects : goal.returns-clause-objects
returns-clause-objects c = data_are

pub returns-clause-units : goal.returns-clause-units
returns-clause-units c = units_stand
