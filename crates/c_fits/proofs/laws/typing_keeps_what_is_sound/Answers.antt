use Rattle.c_meaning.proofs.lemmas.DeclaringRows.{declaration_rows}
use Rattle.c_meaning.proofs.lemmas.TypingRows.{expr_rows, name_rows, declared_rows}
use Rattle.c_fits.proofs.lemmas.Declared.{declaration_leads}
use Rattle.c_fits.proofs.lemmas.Following.{nothing_sound}
use Rattle.c_fits.proofs.lemmas.Walk.{declared_goes, expr_goes, name_goes}
use Rattle.c_fits.proofs.laws.typing_keeps_what_is_sound.Goals as goal

pub returns-clause-start : goal.returns-clause-start
returns-clause-start g = nothing_sound

pub returns-clause-expressions : goal.returns-clause-expressions
returns-clause-expressions g = λ s u e c k h. expr_goes s e u c ((expr_rows s e u c).1 h) k

pub returns-clause-names : goal.returns-clause-names
returns-clause-names g = λ s u t of k h. name_goes s t u of ((name_rows s t u of).1 h) k

pub returns-clause-declared : goal.returns-clause-declared
returns-clause-declared g = λ s u specs d of k h. declared_goes s specs d u of ((declared_rows s specs d u of).1 h) k

pub returns-clause-declarations : goal.returns-clause-declarations
returns-clause-declarations g = λ s u d what k h. declaration_leads s d u what ((declaration_rows s d u what).1 h) k
