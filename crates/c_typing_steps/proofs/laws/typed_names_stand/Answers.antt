use Rattle.c_typing_steps.proofs.lemmas.Laws.{step_laws}
use Rattle.c_typing_steps.proofs.laws.typed_names_stand.Goals as goal

-- src/laws.rt:16:1
pub returns-clause-expressions : goal.returns-clause-expressions
returns-clause-expressions c = step_laws.names

-- src/laws.rt:16:1
pub returns-clause-initialisers : goal.returns-clause-initialisers
returns-clause-initialisers c = step_laws.stored
