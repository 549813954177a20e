use Rattle.c_meaning.proofs.lemmas.TypingRows.{expr_rows}
use Rattle.c_fits.proofs.lemmas.Typed.{expr_part}
use Rattle.c_fits.proofs.lemmas.Values.{value_operand}
use Rattle.c_fits.proofs.laws.typed_expressions_fit.Goals as goal

pub returns-clause-expressions : goal.returns-clause-expressions
returns-clause-expressions g = λ s u e c k p h. (expr_part s e u c ((expr_rows s e u c).1 h) p k).fits

pub returns-clause-values : goal.returns-clause-values
returns-clause-values g = λ s u e c k p h. let v = value_operand u.tags c (expr_part s e u c ((expr_rows s e u c).1 h) p k) in (v.fits, v.value)
