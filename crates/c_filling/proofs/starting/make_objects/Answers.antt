use Rattle.c_meaning.specs.Units.{object_seen}
use Rattle.c_types.specs.Table.{tags, types as types_in}
use Rattle.c_filling.proofs.Started.{next_object}
use Rattle.c_filling.proofs.starting.make_objects.Goals as goal

pub loop-object-preserved : goal.loop-object-preserved
loop-object-preserved c = λ w.
    next_object (tags c.args.types.now) (object_seen (types_in c.args.types.now)) c.args.objects.now c.loop-object.object-index c.object-item.result c.args.storage.now c.loop-object.storage c.make_zeroed.new.self c.is_const.result c.size.result w c.loop-object-test.true c.object-item.is (c.loop-object.invariant w) c.is_const.ensures c.size.ensures c.in_ok-make_zeroed.ensures.ok
