use Rattle.c_values.specs.Stays.{grows_on}
use Rattle.c_initialisers.proofs.sizes.text_array.Goals as goal

pub returns-clause-grows : goal.returns-clause-grows
returns-clause-grows c = grows_on c.args.types.now c.qualified.new.self c.sized_type.new.types c.in_ok-of.ensures.grows c.sized_type.ensures.grows
