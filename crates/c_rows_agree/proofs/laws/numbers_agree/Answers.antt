use Rattle.c_rows_agree.proofs.lemmas.Conversions.{conversion_holds}
use Rattle.c_rows_agree.proofs.lemmas.Suffixes.{number_holds, pointer_holds}
use Rattle.c_rows_agree.proofs.laws.numbers_agree.Goals as goal

pub returns-clause-constants : goal.returns-clause-constants
returns-clause-constants c = number_holds

pub returns-clause-integers : goal.returns-clause-integers
returns-clause-integers c = conversion_holds

pub returns-clause-pointers : goal.returns-clause-pointers
returns-clause-pointers c = pointer_holds
