use Rattle.std.proofs.Common.{map, subst, List}
use Rattle.std.proofs.lemmas.List.{take_all}
use Rattle.op_forest.specs.declared.lowered.LoweredObject.{LoweredObject}
use Rattle.whole_lowered.specs.Rising.{Rises}
use Rattle.whole_lowered.proofs.Risings.{rises_more}
use Rattle.whole_lowered.proofs.owners.objects_rise.Goals as goal

pub loop-object-preserved : goal.loop-object-preserved
loop-object-preserved c =
    rises_more (λ (x : LoweredObject). x.name) c.args.objects.now c.loop-object.object-index c.object-item.result c.args.first c.loop-object.next c.in_ok-next.next c.loop-object-test.true c.object-item.is c.loop-object.invariant c.in_ok-next.ensures.above c.in_ok-next.ensures.next

pub returns : goal.returns
returns c = subst (λ (xs : List LoweredObject). Rises c.args.first (map (λ (x : LoweredObject). x.name) xs) c.loop-object.next) (take_all c.loop-object.object-index c.args.objects.now c.loop-object-test.false) c.loop-object.invariant
