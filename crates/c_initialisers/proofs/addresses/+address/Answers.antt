use Rattle.c_types.specs.Table.{tags, type_at}
use Rattle.c_initialisers.proofs.StaticValues.{no_second_pointer}
use Rattle.c_initialisers.proofs.addresses.+address.Goals as goal

pub second_pointer-returns-in-empty : goal.second_pointer-returns-in-empty
second_pointer-returns-in-empty t c = no_second_pointer (tags c.args.types.now) (type_at c.args.types.now) c.args.kids.now c.in-empty.len_below
