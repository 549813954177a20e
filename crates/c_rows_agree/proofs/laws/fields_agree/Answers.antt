use Rattle.c_rows_agree.proofs.lemmas.Fields.{field_read_holds, field_value_holds, field_stored_holds}
use Rattle.c_rows_agree.proofs.laws.fields_agree.Goals as goal

pub returns-clause-read : goal.returns-clause-read
returns-clause-read c = field_read_holds

pub returns-clause-values : goal.returns-clause-values
returns-clause-values c = field_value_holds

pub returns-clause-stored : goal.returns-clause-stored
returns-clause-stored c = field_stored_holds
