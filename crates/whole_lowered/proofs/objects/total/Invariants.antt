use Rattle.std.proofs.Common.{◌≡◌, take}
use Rattle.std.specs.Prelude.{sum_by}
use Rattle.op_forest.specs.Lowered.{size_of}
use Rattle.whole_lowered.proofs.objects.total.Given as goal

abbrev pub invariant-loop-item : goal.invariant-loop-item
invariant-loop-item l = l.sum ≡ sum_by size_of (take l.item-index l.items)
