use Rattle.std.proofs.Common.{◌≡◌, drop}
use Rattle.lowered_data.specs.Still.{are_still_objects}
use Rattle.lowered_data.proofs.still.objects_are_still.Given as goal

abbrev pub invariant-loop-object : goal.invariant-loop-object
invariant-loop-object l = are_still_objects (drop l.object-index l.objects) ≡ are_still_objects l.objects
