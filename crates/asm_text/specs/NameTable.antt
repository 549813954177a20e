-- Names one behind the other in one buffer, by the place at which each ends.
use Rattle.std.specs.Prelude.{◌≡◌, ◌≤◌, ℕ, zero, suc, ◌+◌, ◌-◌, List, [], ◌∷◌, length, take, drop, Some, slice_get}

-- the names of these ends, where the bytes before this place are gone
abbrev pub names_behind : ℕ → List ℕ → List ℕ → List (List ℕ)
names_behind start [] bytes = []
names_behind start (e ∷ es) bytes = take (e - start) bytes ∷ names_behind e es (drop (e - start) bytes)

-- they rise, and the last is the end of the bytes
abbrev pub AreEnds : ℕ → List ℕ → List ℕ → Type 0
AreEnds start [] bytes = bytes ≡ []
AreEnds start (e ∷ es) bytes = (start ≤ e) × (e ≤ start + length bytes) × AreEnds e es (drop (e - start) bytes)

-- the name of this number starts where the one before ends
abbrev pub StartsAt : ℕ → List ℕ → ℕ → ℕ → Type 0
StartsAt start ends zero place = place ≡ start
StartsAt start ends (suc n) place = slice_get ends n ≡ Some place
