use Rattle.c_types.specs.Table.{type_at}
use Rattle.c_initialisers.proofs.StaticValues.{no_second_constant}
use Rattle.c_initialisers.proofs.addresses.second_constant.Goals as goal

pub returns-in-empty : goal.returns-in-empty
returns-in-empty c = no_second_constant (type_at c.args.types.now) c.args.kids.now c.in-empty.len_below
