use Rattle.c_unit_fits.proofs.lemmas.Fitting.{stmt_fits}
use Rattle.c_unit_fits.proofs.laws.typed_statements_fit.Goals as goal

pub returns-clause-statements : goal.returns-clause-statements
returns-clause-statements g = λ f a s u first b st t k p w h. let i = stmt_fits f a s b st u t h k p w in (i.code, i.body)

pub returns-clause-leads : goal.returns-clause-leads
returns-clause-leads g = λ f a s u first b st t k p w h. (stmt_fits f a s b st u t h k p w).leads
