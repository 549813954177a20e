-- A slot of four bytes right below a frame's top, and one that begins too far below it.
use Rattle.std.specs.Prelude.{◌≡◌, refl, ℕ, ◌+◌, ◌*◌, ℤ, pos, negsuc, ◌-ℤ◌, ◌≤ℤ◌, [], ◌∷◌}
use Rattle.std.proofs.Common.{arith}
use Rattle.std.proofs.lemmas.Int.{ints}
use Rattle.lowered_forms.specs.Lows.{Low}
use Rattle.lowered_sizes.specs.Frames.{StaysLow}

abbrev begun : Low
begun = record { pieces = []; entries = []; slots = []; labels = 0 }

abbrev with_slot_at : ℤ → Low
with_slot_at z = record { pieces = []; entries = []; slots = record { offset = z; size = 4 } ∷ []; labels = 0 }

stays_low : StaysLow begun (with_slot_at (negsuc 3))
stays_low = record { more = 1; slots = refl; falls = omega (arith, ints) }

not_low : StaysLow begun (with_slot_at (negsuc 7)) → ⊥
not_low h =
    let e : 1 ≡ 0 + h.more = h.slots in
    let f : (pos 0 -ℤ pos (4 * h.more)) ≤ℤ negsuc 7 = h.falls in
    omega (arith, ints, e, f)
