use Rattle.std.proofs.Common.{arith, get_or}
use Rattle.std.proofs.lemmas.List.{get_or_default}
use Rattle.lowering_limits.specs.Sizes.{room_at}
use Rattle.lowering_limits.proofs.Counting.{one_more}
use Rattle.lowering_limits.proofs.bytes.of_locals.Goals as goal

pub loop-id-preserved : goal.loop-id-preserved
loop-id-preserved c =
    let h = one_more (room_at c.args.types.now) c.args.locals.now c.loop-id.id-index (get_or c.args.locals.now c.loop-id.id-index 0) c.loop-id-test.true (get_or_default c.args.locals.now c.loop-id.id-index 0 _ c.loop-id-test.true) in
    omega (arith, h, c.room.ensures)
