-- Zeros in an object: bytes or words one by one, or, where they are more than four, by a loop.
-- Source: ISO/IEC 9899:1990, 6.5.7 (a list that fills not all of an object).
use Rattle.std.specs.Prelude.{ℕ, zero, suc, ◌+◌, ◌*◌, nat_le, ℤ, Bool, true, false}
use Rattle.objects.specs.declared.operators.Binary.TheVariants as binary
use Rattle.objects.specs.declared.operators.Comparison.TheVariants as comparison
use Rattle.objects.specs.declared.width.Width.{Width}
use Rattle.objects.specs.Values.{bytes_in}
use Rattle.op_forest.specs.declared.suffix.Suffix.TheVariants.{I}
use Rattle.c_rows_agree.specs.Integers.{number, binary_of, compared}
use Rattle.c_rows_agree.specs.Places.{stored_as}
use Rattle.c_rows_agree.specs.Typed.{Typed}
use Rattle.c_pointers_agree.specs.Pointers.{moved}
use Rattle.lowered_forms.specs.Lows.{Low, acted, branched, marked, with_label, slot_offset, with_slot}
use Rattle.lowered_forms.specs.Places.{further}
use Rattle.lowered_forms.specs.Values.{slot_read, stored_in}

-- a zero of this width, so many bytes behind a place
abbrev pub zeroed_at : Typed → Width → ℕ → Low → Low
zeroed_at base w from l = acted (stored_as w (further true from base) (number true 0)) l

-- so many of them
abbrev pub zeroed_each : Typed → Width → ℕ → ℕ → Low → Low
zeroed_each base w from zero l = l
zeroed_each base w from (suc n) l = zeroed_each base w (from + bytes_in w) n (zeroed_at base w from l)

-- ---- by a loop: a slot has how many bytes behind the place the next one stands

abbrev pub zeroed_next : Typed → Width → ℤ → Low → Low
zeroed_next base w z l =
    stored_in z (binary_of binary.Add true (slot_read I z) (number true (bytes_in w)))
    (acted (stored_as w (moved 1 false base (slot_read I z)) (number true 0)) l)

abbrev pub zeroed_up_to : Typed → Width → ℕ → ℤ → ℕ → Low → Low
zeroed_up_to base w to z top l = branched (compared comparison.Less true true top (slot_read I z) (number true to)) (zeroed_next base w z (marked top l))

abbrev pub zeroed_in_turn : Typed → Width → ℕ → ℕ → Low → Low
zeroed_in_turn base w from to l =
    zeroed_up_to base w to (slot_offset l) l.labels (with_label (stored_in (slot_offset l) (number true from) (with_slot l)))

abbrev pub zeroed_by : Bool → Typed → Width → ℕ → ℕ → Low → Low
zeroed_by true base w from n l = zeroed_each base w from n l
zeroed_by false base w from n l = zeroed_in_turn base w from (from + n * bytes_in w) l

-- so many zeros of a width, from so many bytes behind a place on
abbrev pub zeroed : Typed → Width → ℕ → ℕ → Low → Low
zeroed base w from n l = zeroed_by (nat_le n 4) base w from n l
