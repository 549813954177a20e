use Rattle.c_typing_steps.proofs.lemmas.Laws.{step_laws}
use Rattle.c_local_names.proofs.lemmas.Units.{unit_locals_fit}
use Rattle.c_local_names.proofs.laws.locals_fit.Goals as goal

pub returns : goal.returns
returns c = unit_locals_fit step_laws
