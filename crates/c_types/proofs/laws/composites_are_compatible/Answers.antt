use Rattle.c_types.proofs.Narrower.{first_alike, narrower, second_alike}
use Rattle.c_types.proofs.laws.composites_are_compatible.Goals as goal

pub returns-clause-first : goal.returns-clause-first
returns-clause-first c = first_alike

pub returns-clause-second : goal.returns-clause-second
returns-clause-second c = second_alike

pub returns-clause-others : goal.returns-clause-others
returns-clause-others c = narrower
