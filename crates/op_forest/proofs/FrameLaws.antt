-- Where the lowest of two lists of slots begins.
use Rattle.std.proofs.Common.{◌≡◌, ℤ, List, [], ◌∷◌, ◌++◌, refl}
use Rattle.op_forest.specs.declared.frame.Slot.{Slot}
use Rattle.op_forest.specs.Frames.{lesser, lowest_from}

pub lowest_append : (z : ℤ) (a b : List Slot) → lowest_from z (a ++ b) ≡ lowest_from (lowest_from z a) b
lowest_append z [] b = refl
lowest_append z (s ∷ ss) b = lowest_append (lesser z s.offset) ss b
