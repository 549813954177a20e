-- Arithmetic, conversions and comparisons of words, as C has them; where C's are undefined, there is none.
-- Source: ISO/IEC 9899:1990, 6.2.1.2, 6.3.3.3 and 6.3.5 to 6.3.9, in the profile of this compiler.
use Rattle.std.specs.Prelude.{ℕ, ℤ, neg_ℤ, not, Bool, true, false, List, Option, Some, None}
use Rattle.std.specs.declared.cmp.Ordering.{Ordering}
use Rattle.std.specs.declared.cmp.Ordering.TheVariants as ordering
use Rattle.objects.specs.declared.operators.Unary.{Unary}
use Rattle.objects.specs.declared.operators.Binary.{Binary}
use Rattle.objects.specs.declared.operators.Binary.TheVariants.{Subtract}
use Rattle.objects.specs.declared.operators.Comparison.{Comparison}
use Rattle.objects.specs.declared.operators.Comparison.TheVariants as comparison
use Rattle.objects.specs.declared.value.Value.TheVariants.{Number}
use Rattle.objects.specs.Arithmetic.{signed_of, unary_value, binary_value, comparison_value}
use Rattle.objects.specs.Conversions.{extended}
use Rattle.objects.specs.Pointers.{moved, ordered, subtracted, compared}
use Rattle.forests.specs.Words.{Word, Plain, narrow, low_number, number_of}
use Rattle.forests.specs.Objects.{Object, shapes}
use Rattle.forests.specs.Accesses.{defined}
use Rattle.forests.specs.Addresses.{plain}

-- a constant as a word, and as one of so many bits
abbrev pub constant : Option ℤ → Option Word
constant None = None
constant (Some z) = Some (Plain (Number (number_of z)))

abbrev pub narrow_constant : ℕ → Option ℤ → Option Word
narrow_constant bits None = None
narrow_constant bits (Some z) = Some (narrow bits (number_of z))

-- so many low bits extended to a word, with their sign or without
abbrev pub extended_by : Bool → ℕ → Option ℕ → Option Word
extended_by signed bits None = None
extended_by signed bits (Some n) = Some (Plain (Number (extended signed bits n)))

abbrev pub widened : Bool → ℕ → Word → Option Word
widened signed bits w = extended_by signed bits (low_number bits w)

abbrev pub narrowed_by : ℕ → Option ℕ → Option Word
narrowed_by bits None = None
narrowed_by bits (Some n) = Some (narrow bits n)

-- so many low bits of a word
abbrev pub narrowed : ℕ → Word → Option Word
narrowed bits w = narrowed_by bits (low_number bits w)

-- an operation on one number, and on two
abbrev pub of_one : Unary → Word → Option Word
of_one op (Plain v) = plain (defined (unary_value op v))
of_one op w = None

abbrev pub of_two : Bool → Binary → Word → Word → Option Word
of_two signed op (Plain v) (Plain w) = plain (defined (binary_value signed op v w))
of_two signed op v w = None

-- a pointer moved by a number of bytes, on and back
abbrev pub moved_on : List Object → Word → Word → Option Word
moved_on objects (Plain p) (Plain (Number n)) = plain (defined (moved (shapes objects) p (signed_of n)))
moved_on objects p n = None

abbrev pub moved_back : List Object → Word → Word → Option Word
moved_back objects (Plain p) (Plain (Number n)) = plain (defined (moved (shapes objects) p (neg_ℤ (signed_of n))))
moved_back objects p n = None

-- the difference of two numbers, or of two pointers in bytes
abbrev pub difference : List Object → Word → Word → Option Word
difference objects (Plain (Number x)) (Plain (Number y)) = plain (defined (binary_value false Subtract (Number x) (Number y)))
difference objects (Plain p) (Plain q) = plain (defined (subtracted (shapes objects) 1 p q))
difference objects p q = None

-- whether two numbers, pointers or functions are equal
abbrev pub equal : List Object → Word → Word → Option Bool
equal objects (Plain p) (Plain q) = defined (compared (shapes objects) p q)
equal objects p q = None

abbrev pub negated : Option Bool → Option Bool
negated None = None
negated (Some b) = Some (not b)

-- whether two signed numbers are so
abbrev pub signed_are : Comparison → Word → Word → Option Bool
signed_are op (Plain v) (Plain w) = defined (comparison_value true op v w)
signed_are op v w = None

-- whether a comparison holds of what is ordered so
abbrev pub holds_of : Comparison → Ordering → Bool
holds_of comparison.Less ordering.Less = true
holds_of comparison.LessEqual ordering.Less = true
holds_of comparison.LessEqual ordering.Equal = true
holds_of comparison.Greater ordering.Greater = true
holds_of comparison.GreaterEqual ordering.Greater = true
holds_of comparison.GreaterEqual ordering.Equal = true
holds_of comparison.Equal ordering.Equal = true
holds_of comparison.NotEqual ordering.Less = true
holds_of comparison.NotEqual ordering.Greater = true
holds_of op o = false

abbrev pub ordered_so : Comparison → Option Ordering → Option Bool
ordered_so op None = None
ordered_so op (Some o) = Some (holds_of op o)

-- whether two unsigned numbers, or two pointers, are so
abbrev pub unsigned_are : List Object → Comparison → Word → Word → Option Bool
unsigned_are objects op (Plain (Number x)) (Plain (Number y)) = defined (comparison_value false op (Number x) (Number y))
unsigned_are objects op (Plain p) (Plain q) = ordered_so op (defined (ordered (shapes objects) p q))
unsigned_are objects op p q = None
