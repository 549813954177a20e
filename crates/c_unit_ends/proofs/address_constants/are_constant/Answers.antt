use Rattle.std.proofs.Common.{length}
use Rattle.c_unit_ends.proofs.AtPlaces.{place_at}
use Rattle.c_unit_ends.proofs.address_constants.are_constant.Goals as goal

pub is_past-requires-clause-of : goal.is_past-requires-clause-of
is_past-requires-clause-of c = (place_at (length c.args.types.now.forms) c.args.list.now c.loop-place.place-index c.place-item.result c.place-item.result c.requires.list c.loop-place-test.true c.place-item.is).0

pub is_past-requires-clause-value : goal.is_past-requires-clause-value
is_past-requires-clause-value c = (place_at (length c.args.types.now.forms) c.args.list.now c.loop-place.place-index c.place-item.result c.place-item.result c.requires.list c.loop-place-test.true c.place-item.is).1
