use Rattle.c_typing_steps.proofs.lemmas.Laws.{step_laws}
use Rattle.c_typing_steps.proofs.laws.typing_steps.Goals as goal

-- src/laws.rt:5:1
pub returns-clause-expressions : goal.returns-clause-expressions
returns-clause-expressions c = step_laws.expressions

-- src/laws.rt:5:1
pub returns-clause-specifiers : goal.returns-clause-specifiers
returns-clause-specifiers c = step_laws.specifiers

-- src/laws.rt:5:1
pub returns-clause-declarators : goal.returns-clause-declarators
returns-clause-declarators c = step_laws.declarators

-- src/laws.rt:5:1
pub returns-clause-own : goal.returns-clause-own
returns-clause-own c = step_laws.own

-- src/laws.rt:5:1
pub returns-clause-inside : goal.returns-clause-inside
returns-clause-inside c = step_laws.inside

-- src/laws.rt:5:1
pub returns-clause-initialisers : goal.returns-clause-initialisers
returns-clause-initialisers c = step_laws.initialisers
