-- The templates of C's operations on pointers have the operands that their operators need, and the places of slots are in the frame.
use Rattle.std.specs.Prelude.{◌≡◌, ◌<◌, ℕ, ◌*◌, ◌^◌, ℤ, pos, ◌+ℤ◌, Bool, Option, Some, List, slice_get}
use Rattle.op_forest.specs.declared.frame.Slot.{Slot}
use Rattle.op_forest.specs.declared.suffix.Suffix.{Suffix}
use Rattle.forests.specs.WellFormed.{LiesInOne}
use Rattle.c_rows_agree.specs.Typed.{Typed}
use Rattle.c_pointers_agree.specs.Pointers.{moved, displaced, name, argument, difference}
use Rattle.c_rows_agree.specs.Fitting.{FitsTyped, FitsInteger}

abbrev pub ElementsFit : Type 0
ElementsFit = (given : ℕ → Option Suffix) (size : ℕ) (back : Bool) (a b : Typed) → size < 2 ^ 32 → FitsTyped given a → FitsTyped given b → FitsTyped given (moved size back a b)

abbrev pub MembersFit : Type 0
MembersFit = (given : ℕ → Option Suffix) (offset : ℕ) (a : Typed) → offset < 2 ^ 32 → FitsTyped given a → FitsTyped given (displaced offset a)

abbrev pub NamesFit : Type 0
NamesFit = (given : ℕ → Option Suffix) (n : ℕ) (offset : ℤ) → FitsTyped given (name n offset)

abbrev pub ArgumentsFit : Type 0
ArgumentsFit = (given : ℕ → Option Suffix) (i : ℕ) → 4 * i < 2 ^ 32 → FitsTyped given (argument i)

abbrev pub DifferencesFit : Type 0
DifferencesFit = (given : ℕ → Option Suffix) (size : ℕ) (a b : Typed) → size < 2 ^ 32 → FitsTyped given a → FitsTyped given b → FitsInteger given (difference size a b)

abbrev pub SlotsLie : Type 0
SlotsLie = (slots : List Slot) (i : ℕ) (s : Slot) (start : ℕ) → slice_get slots i ≡ Some s → start < s.size → LiesInOne slots (s.offset +ℤ pos start)
