use Rattle.c_meaning.proofs.lemmas.DeclaringRows.{initialiser_rows, declaration_rows}
use Rattle.c_meaning.proofs.lemmas.DeclaringFaults.{initialiser_first, declaration_first}
use Rattle.c_meaning.proofs.laws.declaring_is_a_function.Goals as goal

pub returns-clause-initialisers : goal.returns-clause-initialisers
returns-clause-initialisers c = initialiser_rows

pub returns-clause-declarations : goal.returns-clause-declarations
returns-clause-declarations c = declaration_rows

pub returns-clause-initialiser_faults : goal.returns-clause-initialiser_faults
returns-clause-initialiser_faults c = initialiser_first

pub returns-clause-declaration_faults : goal.returns-clause-declaration_faults
returns-clause-declaration_faults c = declaration_first
