use Rattle.c_rows_agree.proofs.lemmas.Scalars.{scalar_read, pointer_read, scalar_stored}
use Rattle.c_rows_agree.proofs.laws.scalars_agree.Goals as goal

pub returns-clause-read : goal.returns-clause-read
returns-clause-read c = scalar_read

pub returns-clause-pointers : goal.returns-clause-pointers
returns-clause-pointers c = pointer_read

pub returns-clause-stored : goal.returns-clause-stored
returns-clause-stored c = scalar_stored
