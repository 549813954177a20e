use Rattle.std.proofs.Common.{length, refl}
use Rattle.c_unit_ends.proofs.AtPlaces.{linked_at}
use Rattle.c_unit_ends.proofs.undefined.declared_otherwise.Goals as goal

pub is_other-requires : goal.is_other-requires
is_other-requires c = linked_at (length c.args.types.now.forms) c.args.list.now c.loop-name.name-index _ (record { symbol = 0; of = 0; line = 0 }) c.requires c.loop-name-test.true refl
