-- `a ? b : c`: both ways store the value, if there is one, in one slot.
-- Source: ISO/IEC 9899:1990, 6.3.15.
use Rattle.std.specs.Prelude.{ℕ, Bool, true, false, ◌||◌, ℤ}
use Rattle.op_forest.specs.declared.suffix.Suffix.TheVariants.{I, P}
use Rattle.c_types.specs.CType.{CType}
use Rattle.c_meaning.specs.Types.{is_void, is_pointer, is_record}
use Rattle.c_rows_agree.specs.Typed.{Typed, as_i}
use Rattle.c_rows_agree.specs.Integers.{number, as_pointer}
use Rattle.lowered_forms.specs.Lows.{Low, jumped, marked, with_label, slot_offset, with_slot}
use Rattle.lowered_forms.specs.Values.{Lowered, Part, placed, slot_read, stored_in}

-- the value is none, a number, or a pointer: of a structure that to its place
pub data Sort : Type 0 where
  Nothing : Sort
  Word : Sort
  Place : Sort

abbrev pub sort_by : Bool → Bool → Sort
sort_by true place = Nothing
sort_by false true = Place
sort_by false false = Word

abbrev pub sort_of : CType → Sort
sort_of t = sort_by (is_void t) (is_pointer t || is_record t)

abbrev pub kept_in : Sort → ℤ → Lowered → Low
kept_in Nothing z r = r.low
kept_in Word z r = stored_in z (record { tree = as_i r.value; suffix = I }) r.low
kept_in Place z r = stored_in z (as_pointer r.value) r.low

abbrev pub sort_read : Sort → ℤ → Typed
sort_read Nothing z = number true 0
sort_read Word z = slot_read I z
sort_read Place z = slot_read P z

-- one way, from a label on or past it, and the other one
abbrev pub second_way : Sort → ℤ → Part → ℕ → ℕ → Low → Low
second_way sort z c n end l = marked end (kept_in sort z (c.value (marked n (jumped end l))))

abbrev pub both_ways : Sort → ℤ → Part → Part → Part → ℕ → ℕ → Low → Low
both_ways sort z a b c n end l = second_way sort z c n end (kept_in sort z (b.value (a.test n false l)))

abbrev pub with_ways : Sort → ℤ → Part → Part → Part → Low → Lowered
with_ways sort z a b c l = placed (sort_read sort z) (both_ways sort z a b c l.labels (with_label l).labels (with_label (with_label l)))

abbrev pub conditional : CType → Part → Part → Part → Low → Lowered
conditional of a b c l = with_ways (sort_of of) (slot_offset l) a b c (with_slot l)
