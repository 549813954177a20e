use Rattle.c_values.specs.Stays.{grows_on}
use Rattle.c_unit_ends.proofs.tentative.closed_array.Goals as goal

pub returns-in_ok-id-in-Some-default-None-clause-grows : goal.returns-in_ok-id-in-Some-default-None-clause-grows
returns-in_ok-id-in-Some-default-None-clause-grows c = grows_on c.args.types.now c.one_element.new.types c.qualified.new.self c.one_element.ensures.grows c.qualified.ensures.grows
