use Rattle.c_match_fields.proofs.lemmas.FieldStores.{field_stored}
use Rattle.c_match_fields.proofs.lemmas.KnownFields.{field_reads}
use Rattle.c_match_fields.proofs.laws.fields_go.Goals as goal

pub returns-clause-read : goal.returns-clause-read
returns-clause-read c = field_reads

pub returns-clause-stored : goal.returns-clause-stored
returns-clause-stored c = field_stored
