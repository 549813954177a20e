use Rattle.switch_tables.proofs.lemmas.Cutting.{cut_is_half_full}
use Rattle.switch_tables.proofs.lemmas.TableParts.{are_tables, are_few, are_known}
use Rattle.switch_tables.proofs.laws.tables_are_whole.Goals as goal

pub returns-clause-full : goal.returns-clause-full
returns-clause-full c = cut_is_half_full

pub returns-clause-tables : goal.returns-clause-tables
returns-clause-tables c = are_tables

pub returns-clause-few : goal.returns-clause-few
returns-clause-few c = are_few

pub returns-clause-known : goal.returns-clause-known
returns-clause-known c = are_known
