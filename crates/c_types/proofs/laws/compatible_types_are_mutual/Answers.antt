use Rattle.c_types.proofs.Alike.{compatible_itself}
use Rattle.c_types.proofs.Mutual.{mutual_types}
use Rattle.c_types.proofs.laws.compatible_types_are_mutual.Goals as goal

pub returns-clause-itself : goal.returns-clause-itself
returns-clause-itself c = compatible_itself

pub returns-clause-either : goal.returns-clause-either
returns-clause-either c = mutual_types
