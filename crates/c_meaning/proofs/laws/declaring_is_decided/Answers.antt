use Rattle.c_meaning.specs.Initialising.{typed_initialiser}
use Rattle.c_meaning.specs.Declaring.{typed_declaration}
use Rattle.c_meaning.proofs.lemmas.Threads.{is_decided}
use Rattle.c_meaning.proofs.lemmas.DeclaringRows.{initialiser_rows, declaration_rows}
use Rattle.c_meaning.proofs.lemmas.DeclaringFaults.{initialiser_first, declaration_first}
use Rattle.c_meaning.proofs.laws.declaring_is_decided.Goals as goal

pub returns-clause-initialisers : goal.returns-clause-initialisers
returns-clause-initialisers c = λ s o i. is_decided (typed_initialiser s o i) _ _ (initialiser_rows s o i) (initialiser_first s o i)

pub returns-clause-declarations : goal.returns-clause-declarations
returns-clause-declarations c = λ s d. is_decided (typed_declaration s d) _ _ (declaration_rows s d) (declaration_first s d)
