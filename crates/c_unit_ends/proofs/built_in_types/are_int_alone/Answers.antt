use Rattle.c_types.specs.Table.{types}
use Rattle.c_unit_ends.proofs.TypeLists.{more_alone}
use Rattle.c_unit_ends.proofs.built_in_types.are_int_alone.Goals as goal

pub returns-in_default-2 : goal.returns-in_default-2
returns-in_default-2 c = more_alone (types c.args.types.now) c.args.list.now c.in_default.len_at_least
