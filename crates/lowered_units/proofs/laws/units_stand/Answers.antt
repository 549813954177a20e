use Rattle.lowered_units.proofs.lemmas.Standing.{functions_stand, tables_stand}
use Rattle.lowered_units.proofs.laws.units_stand.Goals as goal

pub returns-clause-functions : goal.returns-clause-functions
returns-clause-functions c = functions_stand

pub returns-clause-tables : goal.returns-clause-tables
returns-clause-tables c = tables_stand
