-- What operators do with sound words and objects is sound.
use Rattle.std.specs.Prelude.{◌<◌, ◌^◌}
use Rattle.forests.specs.Words.{IsWord}
use Rattle.forests.specs.Bits.{KnownBits}
use Rattle.forests.specs.BitLaws.{Has}
use Rattle.forests.specs.Actions.{Action, Gave, Stored, Passed, Called, Moved, Meaningless}
use Rattle.forests.specs.Sound.{AreSoundObjects, IsSoundMove}

-- what an action gives is sound
abbrev pub IsSoundAction : Action → Type 0
IsSoundAction (Gave v) = IsWord v
IsSoundAction (Stored objects) = AreSoundObjects objects
IsSoundAction (Passed w) = IsWord w
IsSoundAction (Called valued f) = Unit {0}
IsSoundAction (Moved mv) = IsSoundMove mv
IsSoundAction Meaningless = Unit {0}

-- ---- bits

-- the known bits of a word are among 32, and its value has them
pub record AreKnown (a : KnownBits) : Type 0 where
  pub small : a.known < 2 ^ 32
  pub among : Has a.value a
