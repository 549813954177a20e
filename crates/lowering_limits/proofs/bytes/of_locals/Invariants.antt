use Rattle.std.proofs.Common.{◌≡◌, take}
use Rattle.lowering_limits.specs.Sizes.{local_bytes}
use Rattle.lowering_limits.proofs.bytes.of_locals.Given as goal

abbrev pub invariant-loop-id : goal.invariant-loop-id
invariant-loop-id l = l.count ≡ local_bytes l.types (take l.id-index l.locals)
