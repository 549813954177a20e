use Rattle.std.proofs.Common.{take}
use Rattle.std.specs.Prelude.{All}
use Rattle.whole_lowered.specs.Labels.{KnowsObject}
use Rattle.whole_lowered.proofs.objects.check_objects.Given as goal

abbrev pub invariant-loop-object : goal.invariant-loop-object
invariant-loop-object l = All (KnowsObject l.names l.labels) (take l.object-index l.objects)
