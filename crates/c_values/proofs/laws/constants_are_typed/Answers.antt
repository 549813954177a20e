use Rattle.c_values.proofs.Integers.{constant_typed}
use Rattle.c_values.proofs.laws.constants_are_typed.Goals as goal

pub returns : goal.returns
returns c = constant_typed
