use Rattle.std.proofs.Common.{arith}
use Rattle.c_meaning.specs.declared.filled_place.FilledPlace.{FilledPlace}
use Rattle.c_meaning.specs.CoreTrees.{parts}
use Rattle.lowering_limits.proofs.Counting.{one_more}
use Rattle.lowering_limits.proofs.nodes.of_places.Goals as goal

pub loop-p-preserved : goal.loop-p-preserved
loop-p-preserved c = let h = one_more (λ (p : FilledPlace). parts p.value) c.args.places.now c.loop-p.p-index c.p-item.result c.loop-p-test.true c.p-item.is in omega (arith, h)
