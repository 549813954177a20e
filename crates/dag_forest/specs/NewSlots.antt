-- New slots below those of a frame, each of 4 bytes, and each right below the one before.
use Rattle.std.specs.Prelude.{ℕ, zero, suc, ◌*◌, ℤ, pos, ◌-ℤ◌, List, [], ◌∷◌, ◌++◌}
use Rattle.op_forest.specs.declared.frame.Slot.{Slot}

-- where the new slot of this number begins, from 0
abbrev pub offset_below : ℤ → ℕ → ℤ
offset_below low n = low -ℤ pos (4 * suc n)

abbrev pub slot_below : ℤ → ℕ → Slot
slot_below low n = record { offset = offset_below low n; size = 4 }

abbrev pub slots_below : ℤ → ℕ → List Slot
slots_below low zero = []
slots_below low (suc n) = slots_below low n ++ slot_below low n ∷ []
