use Rattle.std.proofs.Common.{drop, nat_eq}
use Rattle.indexmap.specs.IndexMap.{get}
use Rattle.forests.specs.FirstPlaces.{AreFirst}
use Rattle.forests.proofs.labels.label_places.Given as goal

abbrev pub invariant-loop-root : goal.invariant-loop-root
invariant-loop-root l = AreFirst l.root (drop l.root l.roots) (get nat_eq l.places)
