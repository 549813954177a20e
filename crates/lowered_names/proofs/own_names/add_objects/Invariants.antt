use Rattle.std.proofs.Common.{map, take}
use Rattle.c_meaning.specs.declared.core_unit.CoreObject.{CoreObject}
use Rattle.lowered_names.specs.UnitNames.{AreAdded}
use Rattle.lowered_names.proofs.own_names.add_objects.Given as goal

abbrev pub invariant-loop-object : goal.invariant-loop-object
invariant-loop-object l = AreAdded (map (λ (x : CoreObject). x.name) (take l.object-index l.objects)) l.fn.all l.all
