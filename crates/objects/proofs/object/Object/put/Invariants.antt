use Rattle.std.proofs.Common.{◌≡◌, take}
use Rattle.objects.specs.Objects.{with_bytes}
use Rattle.objects.proofs.object.Object.put.Given as goal

abbrev pub invariant-loop-k : goal.invariant-loop-k
invariant-loop-k l = l.self ≡ with_bytes l.initial.self l.place (take l.k l.bytes)
