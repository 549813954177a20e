use Rattle.std.proofs.Common.{◌≡◌, take, drop, slice_get}
use Rattle.objects.specs.Objects.{contents, stored}
use Rattle.objects.proofs.storing.copy_bytes.Given as goal

abbrev pub invariant-loop-k : goal.invariant-loop-k
invariant-loop-k l =
    l.objects.items ≡ stored l.initial.objects.items l.to.object l.to.offset (take l.k (take l.size (drop l.from.offset (contents (slice_get l.initial.objects.items l.from.object)))))
