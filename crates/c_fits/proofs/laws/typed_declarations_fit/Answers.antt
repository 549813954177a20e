use Rattle.c_meaning.proofs.lemmas.DeclaringRows.{declaration_rows, initialiser_rows}
use Rattle.c_fits.proofs.lemmas.DeclaredFits.{declaration_fits}
use Rattle.c_fits.proofs.lemmas.Initialisers.{initialiser_stores}
use Rattle.c_fits.proofs.laws.typed_declarations_fit.Goals as goal

pub returns-clause-initialisers : goal.returns-clause-initialisers
returns-clause-initialisers g = λ s u o i f k p e h z. initialiser_stores s o i u f ((initialiser_rows s o i u f).1 h) k p e z

pub returns-clause-declarations : goal.returns-clause-declarations
returns-clause-declarations g = λ s u d what k p h. declaration_fits s d u what ((declaration_rows s d u what).1 h) k p
