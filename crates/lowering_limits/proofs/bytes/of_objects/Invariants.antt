use Rattle.std.proofs.Common.{◌≡◌, take}
use Rattle.lowering_limits.specs.Sizes.{object_bytes}
use Rattle.lowering_limits.proofs.bytes.of_objects.Given as goal

abbrev pub invariant-loop-object : goal.invariant-loop-object
invariant-loop-object l = l.count ≡ object_bytes l.types (take l.object-index l.objects)
