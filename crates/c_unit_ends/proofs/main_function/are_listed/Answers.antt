use Rattle.c_types.specs.Table.{types}
use Rattle.c_unit_ends.proofs.TypeLists.{more_of_main, one_of_main}
use Rattle.c_unit_ends.proofs.main_function.are_listed.Goals as goal

pub returns-in_default : goal.returns-in_default
returns-in_default c = one_of_main (types c.args.types.now) c.args.list.now c.in_default.len_at_least c.in_default.len_below

pub returns-in_default-2 : goal.returns-in_default-2
returns-in_default-2 c = more_of_main (types c.args.types.now) c.args.list.now c.in_default.len_at_least
