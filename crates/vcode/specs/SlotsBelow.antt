-- That code uses only the first spill slots.
use Rattle.std.specs.Prelude.{ℕ, ◌<◌, ℤ, pos, negsuc, List, [], ◌∷◌}
use Rattle.vcode.specs.Machines.{Machine, Kind, Plain, Mark, Load, Store, Copy}

abbrev pub IsSlotBelow : ℕ → ℤ → Type 0
IsSlotBelow limit (pos n) = n < limit
IsSlotBelow limit (negsuc n) = ⊥

abbrev pub HasSlotBelow : ℕ → Kind → Type 0
HasSlotBelow limit Plain = Unit {0}
HasSlotBelow limit (Mark l) = Unit {0}
HasSlotBelow limit (Load z) = IsSlotBelow limit z
HasSlotBelow limit (Store z) = IsSlotBelow limit z
HasSlotBelow limit Copy = Unit {0}

-- each slot that the code loads or stores is from 0 and below the limit
abbrev pub UsesSlotsBelow : {I : Type 0} → Machine I → ℕ → List I → Type 0
UsesSlotsBelow m limit [] = Unit {0}
UsesSlotsBelow m limit (i ∷ is) = HasSlotBelow limit (m.kind i) × UsesSlotsBelow m limit is
