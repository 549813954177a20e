-- Integer constant expressions and their values.
-- Source: C89 3.4; the arithmetic is that of every run.
use Rattle.std.specs.Prelude.{ℕ, zero, suc, ℤ, pos, ◌==◌, ◌&&◌, ◌||◌, not, Bool, true, false, Option, Some, None, Result, Ok, Err, if◌then◌else◌}
use Rattle.std.specs.Option.{option_map}
use Rattle.c_meaning.specs.declared.core_expr.CoreKind.TheVariants as kind
use Rattle.lcc_base.specs.declared.cause.Cause.{Cause}
use Rattle.objects.specs.declared.value.Value.{Value}
use Rattle.objects.specs.declared.value.Value.TheVariants.{Number}
use Rattle.objects.specs.Arithmetic.{signed_of, unary_value, binary_value, comparison_value}
use Rattle.objects.specs.Conversions.{converted}
use Rattle.c_types.specs.CType.{Void, CType, Plain, Simple, Pointer}
use Rattle.c_meaning.specs.declared.core_expr.Conversion.{Conversion}
use Rattle.c_meaning.specs.declared.core_expr.Conversion.TheVariants as to
use Rattle.c_meaning.specs.CoreTrees.{CoreOf, Core, CoresOf, NoCore, Cores, type_of}
use Rattle.c_meaning.specs.Scalars.{is_signed}
use Rattle.c_meaning.specs.Values.{CoreTree, CoreTrees}

-- the number that a word is, by its type
abbrev pub number_in : CType → ℕ → ℤ
number_in t word = if is_signed t then signed_of word else pos word

-- Constants, sizes and enumerators, under operators other than assignments, `++`, `--`, calls and commas, and under
-- conversions to integer types.
abbrev pub is_to_integer : Conversion → Bool
is_to_integer (to.Integer scalar) = true
is_to_integer c = false

abbrev mutual
  pub is_constant : {T : Type 0} → CoreOf T → Bool
  is_constant (Core (kind.Number n) of line kids) = true
  is_constant (Core (kind.Convert conversion) of line kids) = is_to_integer conversion && all_constant kids
  is_constant (Core (kind.Unary op) of line kids) = all_constant kids
  is_constant (Core kind.Not of line kids) = all_constant kids
  is_constant (Core (kind.Binary op signed) of line kids) = all_constant kids
  is_constant (Core (kind.Compare op signed) of line kids) = all_constant kids
  is_constant (Core kind.And of line kids) = all_constant kids
  is_constant (Core kind.Or of line kids) = all_constant kids
  is_constant (Core kind.Conditional of line kids) = all_constant kids
  is_constant (Core what of line kids) = false

  pub all_constant : {T : Type 0} → CoresOf T → Bool
  all_constant NoCore = true
  all_constant (Cores c cs) = is_constant c && all_constant cs

-- ---- the word of a constant expression

-- the word of a value, where there is one
abbrev pub word_in : Value → Option ℕ
word_in (Number n) = Some n
word_in v = None

abbrev pub word_or_none : Result Value Cause → Option ℕ
word_or_none (Ok v) = word_in v
word_or_none (Err c) = None

abbrev pub truth : Bool → ℕ
truth b = if b then 1 else 0

abbrev pub truth_or_none : Result Bool Cause → Option ℕ
truth_or_none (Ok b) = Some (truth b)
truth_or_none (Err c) = None

-- what comes of one word, and of two; none where one is Undefined
abbrev pub by_one : Option ℕ → (ℕ → Option ℕ) → Option ℕ
by_one (Some x) f = f x
by_one None f = None

abbrev pub by_two : Option ℕ → Option ℕ → (ℕ → ℕ → Option ℕ) → Option ℕ
by_two (Some x) (Some y) f = f x y
by_two x y f = None

abbrev pub converted_word : Conversion → ℕ → Option ℕ
converted_word (to.Integer scalar) n = word_or_none (converted scalar (Number n))
converted_word c n = None

abbrev pub negated : ℕ → Option ℕ
negated n = Some (truth (n == 0))

abbrev pub tested : ℕ → Option ℕ
tested n = Some (truth (not (n == 0)))

-- the right part of `&&` and `||`, and one part of `?:`, isn't evaluated where it isn't needed
abbrev pub both : Option ℕ → ℕ → Option ℕ
both right n = if n == 0 then Some 0 else by_one right tested

abbrev pub either : Option ℕ → ℕ → Option ℕ
either right n = if n == 0 then by_one right tested else Some 1

abbrev pub chosen : Option ℕ → Option ℕ → ℕ → Option ℕ
chosen second third n = if n == 0 then third else second

-- the word of a constant expression, by the arithmetic of every run; None where it is Undefined
abbrev mutual
  pub word : {T : Type 0} → CoreOf T → Option ℕ
  word (Core (kind.Number n) of line kids) = Some n
  word (Core (kind.Convert conversion) of line kids) = by_one (first_word kids) (converted_word conversion)
  word (Core (kind.Unary op) of line kids) = by_one (first_word kids) (λ n. word_or_none (unary_value op (Number n)))
  word (Core kind.Not of line kids) = by_one (first_word kids) negated
  word (Core (kind.Binary op signed) of line kids) = by_two (first_word kids) (second_word kids) (λ x y. word_or_none (binary_value signed op (Number x) (Number y)))
  word (Core (kind.Compare op signed) of line kids) = by_two (first_word kids) (second_word kids) (λ x y. truth_or_none (comparison_value signed op (Number x) (Number y)))
  word (Core kind.And of line kids) = by_one (first_word kids) (both (second_word kids))
  word (Core kind.Or of line kids) = by_one (first_word kids) (either (second_word kids))
  word (Core kind.Conditional of line kids) = by_one (first_word kids) (chosen (second_word kids) (third_word kids))
  word (Core what of line kids) = None

  pub first_word : {T : Type 0} → CoresOf T → Option ℕ
  first_word NoCore = None
  first_word (Cores c cs) = word c

  pub second_word : {T : Type 0} → CoresOf T → Option ℕ
  second_word NoCore = None
  second_word (Cores c cs) = first_word cs

  pub third_word : {T : Type 0} → CoresOf T → Option ℕ
  third_word NoCore = None
  third_word (Cores c cs) = second_word cs

-- the value of an integer constant expression; None of any other, and where it is Undefined
unfoldable pub fold : CoreTree → Option ℤ
fold c = if is_constant c then option_map (number_in (type_of c)) (word c) else None

-- the value of an integer constant expression that is above 0
abbrev pub above_zero : Option ℤ → Option ℕ
above_zero (Some (pos zero)) = None
above_zero (Some (pos (suc n))) = Some (suc n)
above_zero z = None

abbrev pub is_zero_number : Option ℤ → Bool
is_zero_number (Some (pos zero)) = true
is_zero_number z = false

abbrev pub is_zero : CoreTree → Bool
is_zero c = is_zero_number (fold c)

abbrev pub is_first_zero : CoreTrees → Bool
is_first_zero NoCore = false
is_first_zero (Cores c cs) = is_zero c

abbrev pub is_plain_void_pointer : CType → Bool
is_plain_void_pointer (Plain zero (Pointer (Plain zero (Simple Void)))) = true
is_plain_void_pointer t = false

abbrev pub is_cast_zero : CoreTree → Bool
is_cast_zero (Core (kind.Convert conversion) of line kids) = is_plain_void_pointer of && is_first_zero kids
is_cast_zero c = false

-- a null pointer constant: an integer constant expression of value 0, or one converted to `void *` (C89 3.2.2.3)
abbrev pub is_null : CoreTree → Bool
is_null c = is_zero c || is_cast_zero c
