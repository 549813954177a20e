-- What C's operations on numbers give, and what the templates do that stand for them.
-- Source: ISO/IEC 9899:1990, 6.2.1.2, 6.3.3.3, 6.3.4 to 6.3.12, 6.3.16 and 6.5.2.1.
use Rattle.std.specs.Prelude.{◌≡◌, ◌≤◌, ◌<◌, ℕ, ◌+◌, ◌^◌, Bool, Ok, List}
use Rattle.objects.specs.declared.field.Field.{Field}
use Rattle.objects.specs.declared.operators.Unary.{Unary}
use Rattle.objects.specs.declared.operators.Binary.{Binary}
use Rattle.objects.specs.declared.operators.Comparison.{Comparison}
use Rattle.objects.specs.declared.purpose.Purpose.{Purpose}
use Rattle.objects.specs.declared.value.Value.{Value}
use Rattle.objects.specs.declared.value.Value.TheVariants.{Number}
use Rattle.objects.specs.declared.width.Scalar.{Scalar}
use Rattle.objects.specs.declared.width.Width.{Width}
use Rattle.objects.specs.declared.width.Width.TheVariants.{Four}
use Rattle.objects.specs.Accesses.{read, written, field_read, field_written}
use Rattle.objects.specs.Arithmetic.{unary_value, binary_value, comparison_value, integer_tested}
use Rattle.objects.specs.Conversions.{as_type, converted, extended}
use Rattle.objects.specs.Objects.{Object as Old}
use Rattle.forests.specs.Actions.{Moved}
use Rattle.forests.specs.Words.{Plain, IsWord}
use Rattle.c_match.specs.Held.{IsOpenTo}
use Rattle.c_rows_agree.specs.Templates.{Scene, Acts}
use Rattle.c_rows_agree.specs.Typed.{Typed, Holds}
use Rattle.c_rows_agree.specs.Integers.{number, converted_to, as_pointer, unary_of, binary_of, compared, tested, move_where}
use Rattle.c_rows_agree.specs.Places.{HoldsObjects, IsStored, loaded, loaded_pointer, stored_as, field_loaded, field_value, field_stored}

-- ---- conversions

abbrev pub NumbersAgree : Type 0
NumbersAgree = (k : Scene) (signed : Bool) (n : ℕ) → n < 2 ^ 32 → Holds k (number signed n) (Number n)

-- to any integer type; a pointer may stand in one of four bytes
abbrev pub ConversionsAgree : Type 0
ConversionsAgree = (k : Scene) (s : Scalar) (a : Typed) (v u : Value) → IsWord (Plain v) → Holds k a v → converted s v ≡ Ok u → Holds k (converted_to s a) u

-- to a pointer type
abbrev pub PointersAgree : Type 0
PointersAgree = (k : Scene) (a : Typed) (v : Value) → Holds k a v → Holds k (as_pointer a) v

-- ---- operators

abbrev pub UnaryAgree : Type 0
UnaryAgree = (k : Scene) (o : Unary) (a : Typed) (v u : Value) → Holds k a v → unary_value o v ≡ Ok u → Holds k (unary_of o a) u

abbrev pub BinaryAgree : Type 0
BinaryAgree = (k : Scene) (o : Binary) (signed : Bool) (a b : Typed) (v w u : Value) → Holds k a v → Holds k b w → binary_value signed o v w ≡ Ok u → Holds k (binary_of o signed a b) u

-- the new value of a place that is changed: of its type
abbrev pub ChangesAgree : Type 0
ChangesAgree =
    (k : Scene) (s : Scalar) (o : Binary) (signed : Bool) (a b : Typed) (v w u : Value)
    → IsWord (Plain v) → IsWord (Plain w) → Holds k a v → Holds k b w → binary_value signed o v w ≡ Ok u
    → Holds k (converted_to s (binary_of o signed a b)) (as_type s u)

-- ---- tests

-- a jump that is taken where a comparison holds, or where it doesn't
abbrev pub ComparisonsAgree : Type 0
ComparisonsAgree =
    (k : Scene) (o : Comparison) (signed when truth : Bool) (l : ℕ) (a b : Typed) (v w : Value)
    → Holds k a v → Holds k b w → comparison_value signed o v w ≡ Ok truth → Acts k (compared o signed when l a b) (Moved (move_where when truth l))

abbrev pub TestsAgree : Type 0
TestsAgree = (k : Scene) (when truth : Bool) (l : ℕ) (a : Typed) (v : Value) → Holds k a v → integer_tested v ≡ Ok truth → Acts k (tested when l a) (Moved (move_where when truth l))

-- ---- scalars and bit-fields in memory

abbrev pub ScalarsAreRead : Type 0
ScalarsAreRead =
    (k : Scene) (old : List Old) (s : Scalar) (a : Typed) (p v : Value)
    → HoldsObjects k old → Holds k a p → read k.environment.order s old p ≡ Ok v → Holds k (loaded s a) v

abbrev pub PointersAreRead : Type 0
PointersAreRead =
    (k : Scene) (old : List Old) (s : Scalar) (a : Typed) (p v : Value)
    → HoldsObjects k old → Holds k a p → s.width ≡ Four → read k.environment.order s old p ≡ Ok v → Holds k (loaded_pointer a) v

abbrev pub ScalarsAreStored : Type 0
ScalarsAreStored =
    (k : Scene) (old new : List Old) (purpose : Purpose) (width : Width) (a b : Typed) (p v : Value)
    → HoldsObjects k old → IsOpenTo purpose k.map k.objects p → Holds k a p → Holds k b v → written purpose k.environment.order width v old p ≡ Ok new
    → IsStored k old new (stored_as width a b)

abbrev pub FieldsAreLoaded : Type 0
FieldsAreLoaded =
    (k : Scene) (old : List Old) (f : Field) (a : Typed) (p v : Value)
    → HoldsObjects k old → 1 ≤ f.width → f.first + f.width ≤ 32 → Holds k a p → field_read k.environment.order f old p ≡ Ok v
    → Holds k (field_loaded k.environment.order f a) v

-- what a field holds once a number is written to it
abbrev pub FieldValuesAgree : Type 0
FieldValuesAgree =
    (k : Scene) (f : Field) (b : Typed) (n : ℕ)
    → 1 ≤ f.width → f.width ≤ 32 → Holds k b (Number n) → Holds k (field_value f b) (Number (extended f.signed f.width n))

-- the new bits may come by the top or by the bottom of a word
abbrev pub FieldStoresAgree : Type 0
FieldStoresAgree =
    (k : Scene) (old new : List Old) (purpose : Purpose) (f : Field) (top : Bool) (a b : Typed) (p v : Value)
    → HoldsObjects k old → IsOpenTo purpose k.map k.objects p → 1 ≤ f.width → f.first + f.width ≤ 32 → Holds k a p → Holds k b v
    → field_written purpose k.environment.order f v old p ≡ Ok new → IsStored k old new (field_stored top k.environment.order f a b)
