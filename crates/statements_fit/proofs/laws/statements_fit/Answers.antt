use Rattle.statements_fit.proofs.lemmas.FunctionsFit.{functions_fit}
use Rattle.statements_fit.proofs.lemmas.LayoutsFit.{layouts_fit}
use Rattle.statements_fit.proofs.lemmas.StatementsFit.{statements_fit}
use Rattle.statements_fit.proofs.laws.statements_fit.Goals as goal

pub returns-clause-statements : goal.returns-clause-statements
returns-clause-statements c = statements_fit

pub returns-clause-layouts : goal.returns-clause-layouts
returns-clause-layouts c = λ u order number tables f small. layouts_fit u.tags f small

pub returns-clause-functions : goal.returns-clause-functions
returns-clause-functions c = functions_fit
