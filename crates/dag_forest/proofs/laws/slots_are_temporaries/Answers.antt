use Rattle.dag_forest.proofs.SlotLaws.{is_temporary}
use Rattle.dag_forest.proofs.laws.slots_are_temporaries.Goals as goal

pub returns : goal.returns
returns c = is_temporary
