-- Conversions, arithmetic and pointer arithmetic, worked out by hand.
use Rattle.std.specs.Prelude.{◌≡◌, [], ◌∷◌, refl}
use Rattle.std.specs.Int.{int_wrap}
use Rattle.op_forest.specs.declared.op.Op.{Op}
use Rattle.op_forest.specs.declared.op.Op.TheVariants as op
use Rattle.op_forest.specs.declared.suffix.Suffix.{Suffix}
use Rattle.op_forest.specs.declared.suffix.Suffix.TheVariants.{C, S, I, U, P}
use Rattle.forests.specs.Words.{Word, Label, Partly, unknown}
use Rattle.forests.specs.Actions.{Action, Gave, Meaningless}
use Rattle.forests.proofs.Samples.{number, minus_one, table, variable, gone, at, function, does}

abbrev one : Op → Suffix → Word → Action
one o x a = does o x (a ∷ [])

abbrev two : Op → Suffix → Word → Word → Action
two o x a b = does o x (a ∷ b ∷ [])

-- -2 as a char and as a short
char_to_int : one op.Cvc I (Partly 255 254) ≡ Gave (number 4294967294)
char_to_int = refl

char_to_unsigned : one op.Cvc U (Partly 255 254) ≡ Gave (number 254)
char_to_unsigned = refl

no_char_to_int : one op.Cvc I (Partly 127 1) ≡ Meaningless
no_char_to_int = refl

no_char_to_unsigned : one op.Cvc U (at table 0) ≡ Meaningless
no_char_to_unsigned = refl

short_to_int : one op.Cvs I (Partly 65535 65534) ≡ Gave (number 4294967294)
short_to_int = refl

short_to_unsigned : one op.Cvs U (Partly 65535 65534) ≡ Gave (number 65534)
short_to_unsigned = refl

no_short_to_int : one op.Cvs I (Partly 255 1) ≡ Meaningless
no_short_to_int = refl

no_short_to_unsigned : one op.Cvs U unknown ≡ Meaningless
no_short_to_unsigned = refl

-- 0x12345678 and its low bits
int_to_char : one op.Cvi C (number 305419896) ≡ Gave (Partly 255 120)
int_to_char = refl

int_to_short : one op.Cvi S (number 305419896) ≡ Gave (Partly 65535 22136)
int_to_short = refl

-- the low byte is known
partly_to_char : one op.Cvi C (Partly 511 376) ≡ Gave (Partly 255 120)
partly_to_char = refl

partly_to_short : one op.Cvi S (Partly 511 376) ≡ Meaningless
partly_to_short = refl

pointer_to_char : one op.Cvi C (at table 0) ≡ Meaningless
pointer_to_char = refl

unsigned_to_char : one op.Cvu C (number 4294967040) ≡ Gave (Partly 255 0)
unsigned_to_char = refl

unsigned_to_short : one op.Cvu S (number 4294901761) ≡ Gave (Partly 65535 1)
unsigned_to_short = refl

function_to_char : one op.Cvu C (function 1) ≡ Meaningless
function_to_char = refl

label_to_short : one op.Cvu S (Label 5 3) ≡ Meaningless
label_to_short = refl

-- a word stays, whatever it is
int_to_unsigned : one op.Cvi U (at table 1) ≡ Gave (at table 1)
int_to_unsigned = refl

unsigned_to_int : one op.Cvu I (Partly 61440 12288) ≡ Gave (Partly 61440 12288)
unsigned_to_int = refl

unsigned_to_pointer : one op.Cvu P (at table 1) ≡ Gave (at table 1)
unsigned_to_pointer = refl

pointer_to_unsigned : one op.Cvp U (Label 5 3) ≡ Gave (Label 5 3)
pointer_to_unsigned = refl

negates : one op.Neg I (number 5) ≡ Gave (number 4294967291)
negates = refl

negates_least : one op.Neg I (number 2147483648) ≡ Gave (number 2147483648)
negates_least = refl

negates_unknown : one op.Neg I (Partly 1 1) ≡ Meaningless
negates_unknown = refl

adds_ints : two op.Add I (number 2147483647) (number 1) ≡ Gave (number 2147483648)
adds_ints = refl

adds_unsigned : two op.Add U minus_one (number 2) ≡ Gave (number 1)
adds_unsigned = refl

adds_unknown : two op.Add I (number 1) unknown ≡ Meaningless
adds_unknown = refl

adds_pointer_as_number : two op.Add U (at table 0) (number 0) ≡ Meaningless
adds_pointer_as_number = refl

-- the table has 4 bytes
adds_to_pointer : two op.Add P (at table 1) (number 3) ≡ Gave (at table 4)
adds_to_pointer = refl

adds_past_the_end : two op.Add P (at table 1) (number 4) ≡ Meaningless
adds_past_the_end = refl

adds_negative : two op.Add P (at table 1) minus_one ≡ Gave (at table 0)
adds_negative = refl

adds_to_dead : two op.Add P (at gone 0) (number 0) ≡ Meaningless
adds_to_dead = refl

adds_to_null : two op.Add P (number 0) (number 0) ≡ Gave (number 0)
adds_to_null = refl

moves_null : two op.Add P (number 0) (number 1) ≡ Meaningless
moves_null = refl

subtracts_ints : two op.Sub I (number 0) (number 1) ≡ Gave minus_one
subtracts_ints = refl

subtracts_pointer_as_int : two op.Sub I (at table 1) (number 0) ≡ Meaningless
subtracts_pointer_as_int = refl

subtracts_unsigned : two op.Sub U (number 3) (number 5) ≡ Gave (number 4294967294)
subtracts_unsigned = refl

subtracts_pointers : two op.Sub U (at variable 2) (at variable 8) ≡ Gave (number 4294967290)
unfolding int_wrap
subtracts_pointers = refl

subtracts_others : two op.Sub U (at variable 0) (at table 0) ≡ Meaningless
subtracts_others = refl

subtracts_from_pointer : two op.Sub P (at table 3) (number 3) ≡ Gave (at table 0)
subtracts_from_pointer = refl

subtracts_before_the_start : two op.Sub P (at table 3) (number 4) ≡ Meaningless
subtracts_before_the_start = refl

subtracts_negative : two op.Sub P (at table 3) minus_one ≡ Gave (at table 4)
subtracts_negative = refl

-- 65536 * 65537 is 2^32 + 65536
multiplies_ints : two op.Mul I (number 65536) (number 65537) ≡ Gave (number 65536)
multiplies_ints = refl

multiplies_unsigned : two op.Mul U minus_one minus_one ≡ Gave (number 1)
multiplies_unsigned = refl

multiplies_function : two op.Mul U (function 1) (number 1) ≡ Meaningless
multiplies_function = refl

-- -7 / 2 is -3 and leaves -1
divides_ints : two op.Div I (number 4294967289) (number 2) ≡ Gave (number 4294967293)
divides_ints = refl

leaves_ints : two op.Mod I (number 4294967289) (number 2) ≡ Gave minus_one
leaves_ints = refl

divides_by_zero : two op.Div I (number 1) (number 0) ≡ Meaningless
divides_by_zero = refl

divides_least : two op.Div I (number 2147483648) minus_one ≡ Meaningless
divides_least = refl

leaves_least : two op.Mod I (number 2147483648) minus_one ≡ Meaningless
leaves_least = refl

leaves_by_zero : two op.Mod I (number 1) (number 0) ≡ Meaningless
leaves_by_zero = refl

-- 4294967289 / 2
divides_unsigned : two op.Div U (number 4294967289) (number 2) ≡ Gave (number 2147483644)
divides_unsigned = refl

divides_half : two op.Div U (number 2147483648) minus_one ≡ Gave (number 0)
divides_half = refl

divides_unsigned_by_zero : two op.Div U (number 1) (number 0) ≡ Meaningless
divides_unsigned_by_zero = refl

leaves_unsigned : two op.Mod U (number 4294967289) (number 10) ≡ Gave (number 9)
leaves_unsigned = refl

leaves_unsigned_by_zero : two op.Mod U (number 1) (number 0) ≡ Meaningless
leaves_unsigned_by_zero = refl
