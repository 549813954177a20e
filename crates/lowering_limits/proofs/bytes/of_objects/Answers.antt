use Rattle.std.proofs.Common.{arith}
use Rattle.c_meaning.specs.declared.core_unit.CoreObject.{CoreObject}
use Rattle.lowering_limits.specs.Sizes.{bytes_at}
use Rattle.lowering_limits.proofs.Counting.{one_more}
use Rattle.lowering_limits.proofs.bytes.of_objects.Goals as goal

pub loop-object-preserved : goal.loop-object-preserved
loop-object-preserved c = let h = one_more (λ (o : CoreObject). bytes_at c.args.types.now o.of) c.args.objects.now c.loop-object.object-index c.object-item.result c.loop-object-test.true c.object-item.is in omega (arith, h)
