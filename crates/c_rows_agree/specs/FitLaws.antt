-- The templates of C's operations on numbers have the operands that their operators need.
use Rattle.std.specs.Prelude.{◌≤◌, ◌<◌, ℕ, ◌+◌, ◌^◌, Bool, Option}
use Rattle.lcc_base.specs.declared.order.Order.{Order}
use Rattle.objects.specs.declared.field.Field.{Field}
use Rattle.objects.specs.declared.operators.Unary.{Unary}
use Rattle.objects.specs.declared.operators.Binary.{Binary}
use Rattle.objects.specs.declared.operators.Comparison.{Comparison}
use Rattle.objects.specs.declared.width.Scalar.{Scalar}
use Rattle.objects.specs.declared.width.Width.{Width}
use Rattle.op_forest.specs.declared.suffix.Suffix.{Suffix}
use Rattle.op_forest.specs.declared.suffix.Suffix.TheVariants.{I, U, P}
use Rattle.c_rows_agree.specs.Typed.{Typed, as_i, as_u, as_p}
use Rattle.c_rows_agree.specs.Integers.{number, converted_to, as_pointer, unary_of, binary_of, compared, tested}
use Rattle.c_rows_agree.specs.Places.{loaded, loaded_pointer, stored_as, field_loaded, field_value, field_stored}
use Rattle.c_rows_agree.specs.Fitting.{Fits, FitsTyped, FitsInteger, FitsRoot}

-- ---- values

abbrev pub SuffixesFit : Type 0
SuffixesFit = (given : ℕ → Option Suffix) (a : Typed) → FitsTyped given a → Fits given (as_i a) I × Fits given (as_u a) U × Fits given (as_p a) P

abbrev pub NumbersFit : Type 0
NumbersFit = (given : ℕ → Option Suffix) (signed : Bool) (n : ℕ) → n < 2 ^ 32 → FitsInteger given (number signed n)

abbrev pub ConversionsFit : Type 0
ConversionsFit = (given : ℕ → Option Suffix) (s : Scalar) (a : Typed) → FitsTyped given a → FitsInteger given (converted_to s a)

abbrev pub PointersFit : Type 0
PointersFit = (given : ℕ → Option Suffix) (a : Typed) → FitsTyped given a → FitsTyped given (as_pointer a)

abbrev pub UnaryFit : Type 0
UnaryFit = (given : ℕ → Option Suffix) (o : Unary) (a : Typed) → FitsInteger given a → FitsInteger given (unary_of o a)

abbrev pub BinaryFit : Type 0
BinaryFit = (given : ℕ → Option Suffix) (o : Binary) (signed : Bool) (a b : Typed) → FitsTyped given a → FitsTyped given b → FitsInteger given (binary_of o signed a b)

-- ---- tests

abbrev pub ComparisonsFit : Type 0
ComparisonsFit =
    (given : ℕ → Option Suffix) (o : Comparison) (signed when : Bool) (l : ℕ) (a b : Typed)
    → FitsTyped given a → FitsTyped given b → FitsRoot given (compared o signed when l a b)

abbrev pub TestsFit : Type 0
TestsFit = (given : ℕ → Option Suffix) (when : Bool) (l : ℕ) (a : Typed) → FitsTyped given a → FitsRoot given (tested when l a)

-- ---- scalars and bit-fields in memory

abbrev pub ReadsFit : Type 0
ReadsFit = (given : ℕ → Option Suffix) (s : Scalar) (a : Typed) → FitsTyped given a → FitsInteger given (loaded s a) × FitsTyped given (loaded_pointer a)

abbrev pub StoresFit : Type 0
StoresFit = (given : ℕ → Option Suffix) (w : Width) (a b : Typed) → FitsTyped given a → FitsTyped given b → FitsRoot given (stored_as w a b)

abbrev pub FieldReadsFit : Type 0
FieldReadsFit = (given : ℕ → Option Suffix) (order : Order) (f : Field) (a : Typed) → FitsTyped given a → FitsInteger given (field_loaded order f a)

abbrev pub FieldValuesFit : Type 0
FieldValuesFit = (given : ℕ → Option Suffix) (f : Field) (b : Typed) → f.width ≤ 32 → FitsTyped given b → FitsInteger given (field_value f b)

abbrev pub FieldStoresFit : Type 0
FieldStoresFit =
    (given : ℕ → Option Suffix) (top : Bool) (order : Order) (f : Field) (a b : Typed)
    → f.first + f.width ≤ 32 → FitsTyped given a → FitsTyped given b → FitsRoot given (field_stored top order f a b)
