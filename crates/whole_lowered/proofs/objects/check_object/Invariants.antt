use Rattle.std.proofs.Common.{take}
use Rattle.std.specs.Prelude.{All}
use Rattle.whole_lowered.specs.Labels.{KnowsDatum}
use Rattle.whole_lowered.proofs.objects.check_object.Given as goal

abbrev pub invariant-loop-item : goal.invariant-loop-item
invariant-loop-item l = All (KnowsDatum l.names l.labels) (take l.item-index l.items)
