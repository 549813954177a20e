use Rattle.std.proofs.Common.{drop, nat_eq}
use Rattle.indexmap.specs.IndexMap.{get}
use Rattle.whole_lowered.specs.Labels.{HasLabels}
use Rattle.whole_lowered.proofs.labels.labels_in.Given as goal

abbrev pub invariant-loop-root : goal.invariant-loop-root
invariant-loop-root l = HasLabels (drop l.root l.roots) (get nat_eq l.labels.places)
