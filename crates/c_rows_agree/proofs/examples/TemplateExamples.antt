-- Templates of small operations, what they give, and what they don't.
use Rattle.std.specs.Prelude.{◌≡◌, ℕ, zero, suc, Bool, true, false, Option, Some, None, [], ◌∷◌}
use Rattle.std.proofs.Common.{refl, arith}
use Rattle.lcc_base.specs.declared.order.Order.TheVariants.{Big, Little}
use Rattle.objects.specs.declared.field.Field.{Field}
use Rattle.objects.specs.declared.operators.Binary.TheVariants as binary
use Rattle.objects.specs.declared.operators.Comparison.TheVariants as comparison
use Rattle.objects.specs.declared.operators.Unary.TheVariants as unary
use Rattle.objects.specs.declared.value.Value.TheVariants.{Number}
use Rattle.objects.specs.declared.width.Scalar.{Scalar}
use Rattle.objects.specs.declared.width.Width.{Width}
use Rattle.objects.specs.declared.width.Width.TheVariants as width
use Rattle.op_forest.specs.declared.op.Op.TheVariants as op
use Rattle.op_forest.specs.declared.suffix.Suffix.{Suffix}
use Rattle.op_forest.specs.declared.suffix.Suffix.TheVariants.{C, I}
use Rattle.forests.specs.Actions.{Moved}
use Rattle.forests.specs.Worlds.{Next, To}
use Rattle.forests.specs.Words.{Word, Plain, Partly}
use Rattle.c_rows_agree.specs.Templates.{Given, Scene, Gives, Acts}
use Rattle.c_rows_agree.specs.Typed.{Typed, over}
use Rattle.c_rows_agree.specs.Integers.{number, converted_to, unary_of, binary_of, compared, tested}
use Rattle.c_rows_agree.specs.Places.{field_value, field_bits}
use Rattle.c_rows_agree.specs.Fitting.{Fits, FitsTyped}
use Rattle.c_rows_agree.proofs.lemmas.Once.{gives_once}

-- ---- nodes that are there: 200, 7, -7 and 13

abbrev values : ℕ → Word
values zero = Plain (Number 200)
values (suc zero) = Plain (Number 7)
values (suc (suc zero)) = Plain (Number 4294967289)
values (suc (suc (suc n))) = Plain (Number 13)

abbrev scene : Scene
scene = record {
  map = λ m. None;
  environment = record { global = λ n. None; order = Big; home = record { function = 0; place = 0; made = 0; slots = []; words = 0 } };
  objects = [];
  values = values;
}

abbrev as_int : ℕ → Typed
as_int n = record { tree = Given n; suffix = I }

abbrev scalar : Width → Bool → Scalar
scalar w signed = record { width = w; signed = signed }

-- 200 as a signed char is -56, as an unsigned one itself; and as a short
signed_char : Gives scene (converted_to (scalar width.One true) (as_int 0)).tree (Plain (Number 4294967240))
signed_char = (Partly 255 200, (Plain (Number 200), refl, refl), refl)

unsigned_char : Gives scene (converted_to (scalar width.One false) (as_int 0)).tree (Plain (Number 200))
unsigned_char = (Partly 255 200, (Plain (Number 200), refl, refl), refl)

short : Gives scene (converted_to (scalar width.Two true) (as_int 2)).tree (Plain (Number 4294967289))
short = (Partly 65535 65529, (Plain (Number 4294967289), refl, refl), refl)

unsigned_short : Gives scene (converted_to (scalar width.Two false) (as_int 2)).tree (Plain (Number 65529))
unsigned_short = (Partly 65535 65529, (Plain (Number 4294967289), refl, refl), refl)

-- an int is an unsigned by no node
unsigned : Gives scene (converted_to (scalar width.Four false) (as_int 2)).tree (Plain (Number 4294967289))
unsigned = refl

-- -7 / 2, as signed numbers and as unsigned ones
two : Gives scene (number true 2).tree (Plain (Number 2))
two = refl

signed_half : Gives scene (binary_of binary.Divide true (as_int 2) (number true 2)).tree (Plain (Number 4294967293))
signed_half = (Plain (Number 4294967289), Plain (Number 2), refl, refl, refl)

unsigned_half : Gives scene (binary_of binary.Divide false (as_int 2) (number false 2)).tree (Plain (Number 2147483644))
unsigned_half = (Plain (Number 4294967289), Plain (Number 2), (Plain (Number 4294967289), refl, refl), refl, refl)

-- its sign stays in a shift of a signed number
shifted : Gives scene (binary_of binary.ShiftRight true (as_int 2) (number true 1)).tree (Plain (Number 4294967292))
shifted = (Plain (Number 4294967289), Plain (Number 1), refl, refl, refl)

negative : Gives scene (unary_of unary.Negate (as_int 1)).tree (Plain (Number 4294967289))
negative = (Plain (Number 7), refl, refl)

complement : Gives scene (unary_of unary.Complement (as_int 1)).tree (Plain (Number 4294967288))
complement = (Plain (Number 7), (Plain (Number 7), refl, refl), refl)

-- -7 < 7 as signed numbers alone
less : Acts scene (compared comparison.Less true true 5 (as_int 2) (as_int 1)) (Moved (To 5))
less = record { first = Plain (Number 4294967289); second = Plain (Number 7); left = refl; right = refl; does = refl }

not_less : Acts scene (compared comparison.Less false true 5 (as_int 2) (as_int 1)) (Moved Next)
not_less = record { first = Plain (Number 4294967289); second = Plain (Number 7); left = (Plain (Number 4294967289), refl, refl); right = (Plain (Number 7), refl, refl); does = refl }

-- a jump where a number is 0
zero_asked : Acts scene (tested false 5 (as_int 1)) (Moved Next)
zero_asked = record { first = Plain (Number 7); second = Plain (Number 0); left = refl; right = refl; does = refl }

-- 13 in four bits is -3; where three bits stand before these, they are those from 25 on, or from 3 on
abbrev field : Field
field = record { first = 3; width = 4; signed = true }

field_holds : Gives scene (field_value field (as_int 3)).tree (Plain (Number 4294967293))
field_holds = (Plain (Number 3489660928), Plain (Number 28), (Plain (Number 13), Plain (Number 28), refl, refl, refl), refl, refl)

bits_above : Gives scene (field_bits true Big field (as_int 3)) (Plain (Number 436207616))
bits_above = (Plain (Number 3489660928), Plain (Number 3), (Plain (Number 3489660928), (Plain (Number 13), Plain (Number 28), refl, refl, refl), refl), refl, refl)

bits_below : Gives scene (field_bits false Little field (as_int 3)) (Plain (Number 104))
bits_below = (Plain (Number 13), Plain (Number 3), (Plain (Number 13), Plain (Number 15), (Plain (Number 13), refl, refl), refl, refl), refl, refl)

-- ---- what is refused

not_so : (a b : ℕ) → Plain (Number a) ≡ Plain (Number b) → a ≡ b
not_so a b e = cc

-- 200 is no signed char
no_char : Gives scene (converted_to (scalar width.One true) (as_int 0)).tree (Plain (Number 200)) → ⊥
no_char h = let e = not_so 200 4294967240 (gives_once scene (converted_to (scalar width.One true) (as_int 0)).tree (Plain (Number 200)) (Plain (Number 4294967240)) h signed_char) in let never : ⊥ = omega (arith, e) in never

-- ---- suffixes

abbrev given : ℕ → Option Suffix
given n = Some I

int_fits : FitsTyped given (as_int 0)
int_fits = record { fits = refl; scalar = tt }

-- a char is no int
other : (s : Suffix) → C ∷ [] ≡ s ∷ [] → Some I ≡ Some s → ⊥
other s e f = let never : ⊥ = cc in never

no_char_there : Fits given (over op.Cvc I (Given 0)) I → ⊥
no_char_there h = other h.0 h.1.fits.operands h.2
