-- A unit's program has words for its names, and it starts in a sound world.
use Rattle.std.specs.Prelude.{List, [], ◌∷◌}
use Rattle.op_forest.specs.declared.lowered.LoweredObject.{LoweredObject}
use Rattle.op_forest.specs.declared.lowered.Datum.{Datum}
use Rattle.op_forest.specs.declared.lowered.Datum.TheVariants as datum
use Rattle.forests.specs.Sound.{AreInput}

-- the bytes of the items are bytes
abbrev pub AreData : List Datum → Type 0
AreData [] = Unit {0}
AreData (datum.Bytes bytes ∷ items) = AreInput bytes × AreData items
AreData (item ∷ items) = AreData items

abbrev pub HaveData : List LoweredObject → Type 0
HaveData [] = Unit {0}
HaveData (o ∷ os) = AreData o.items × HaveData os
