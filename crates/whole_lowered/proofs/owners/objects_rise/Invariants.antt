use Rattle.std.proofs.Common.{map, take}
use Rattle.op_forest.specs.declared.lowered.LoweredObject.{LoweredObject}
use Rattle.whole_lowered.specs.Rising.{Rises}
use Rattle.whole_lowered.proofs.owners.objects_rise.Given as goal

abbrev pub invariant-loop-object : goal.invariant-loop-object
invariant-loop-object l = Rises l.first (map (λ (o : LoweredObject). o.name) (take l.object-index l.objects)) l.next
