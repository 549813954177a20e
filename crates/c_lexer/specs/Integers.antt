-- Integer constants: digits in base 10, 8 or 16, and a suffix. The type is the first of a list that holds the value.
-- Source: C89 3.1.3.2.
use Rattle.std.specs.Prelude.{ℕ, Bool, true, false, ◌||◌, ◌&&◌, ◌==◌, nat_le, List, [], ◌∷◌, drop, Option, Some, None, if◌then◌else◌}
use Rattle.lcc_text.specs.declared.class.Class.TheVariants.{Digit}
use Rattle.lcc_text.specs.Classes.{in_class}
use Rattle.c_ast.specs.declared.class.Class.{Class}
use Rattle.c_ast.specs.declared.class.Class.TheVariants.{Integer}
use Rattle.c_ast.specs.declared.class.IntKind.{IntKind}
use Rattle.c_ast.specs.declared.class.IntKind.TheVariants.{Int, Unsigned, Long, UnsignedLong}
use Rattle.c_lexer.specs.declared.class.LexClass.TheVariants.{Octal, Hex}
use Rattle.c_lexer.specs.declared.integer.Suffix.{Suffix}
use Rattle.c_lexer.specs.Classes.{in_lex}
use Rattle.c_lexer.specs.Runs.{run, behind}
use Rattle.c_lexer.specs.Numbers.{number_in}

abbrev pub is_u : ℕ → Bool
is_u b = b == 117 || b == 85

abbrev pub is_l : ℕ → Bool
is_l b = b == 108 || b == 76

-- nothing, `u`, `l` or both, in either order and case
abbrev pub suffix_of : List ℕ → Option Suffix
suffix_of [] = Some (record { unsigned = false; long = false })
suffix_of (a ∷ []) = if is_u a then Some (record { unsigned = true; long = false }) else (if is_l a then Some (record { unsigned = false; long = true }) else None)
suffix_of (a ∷ b ∷ []) = if (is_u a && is_l b) || (is_l a && is_u b) then Some (record { unsigned = true; long = true }) else None
suffix_of (a ∷ b ∷ c ∷ more) = None

-- the greatest value of the type
abbrev pub greatest : IntKind → ℕ
greatest Int = 2147483647
greatest Unsigned = 4294967295
greatest Long = 2147483647
greatest UnsignedLong = 4294967295

-- the types of a constant, by whether it is decimal and by its suffix
abbrev pub kinds' : Bool → Bool → Bool → List IntKind
kinds' true false false = Int ∷ Long ∷ UnsignedLong ∷ []
kinds' false false false = Int ∷ Unsigned ∷ Long ∷ UnsignedLong ∷ []
kinds' decimal true false = Unsigned ∷ UnsignedLong ∷ []
kinds' decimal false true = Long ∷ UnsignedLong ∷ []
kinds' decimal true true = UnsignedLong ∷ []

abbrev pub kinds : Bool → Suffix → List IntKind
kinds decimal s = kinds' decimal s.unsigned s.long

-- the first type that holds the value
abbrev pub first_holding : ℕ → List IntKind → Option Class
first_holding value [] = None
first_holding value (kind ∷ more) = if nat_le value (greatest kind) then Some (Integer value kind) else first_holding value more

abbrev pub integer_class : Bool → Option ℕ → Option Suffix → Option Class
integer_class decimal (Some value) (Some suffix) = first_holding value (kinds decimal suffix)
integer_class decimal (Some value) None = None
integer_class decimal None s = None

-- at least one digit, and a suffix
abbrev pub integer_in : ℕ → List ℕ → List ℕ → Option Class
integer_in base [] after = None
integer_in base (d ∷ ds) after = integer_class (base == 10) (number_in base (d ∷ ds)) (suffix_of after)

-- `x` or `X` stands first
abbrev pub starts_x : List ℕ → Bool
starts_x [] = false
starts_x (b ∷ bs) = b == 120 || b == 88

-- hexadecimal behind `0x` or `0X`, else octal where `0` stands first, else decimal
abbrev pub integer_of : List ℕ → Option Class
integer_of [] = None
integer_of (a ∷ bs) =
    if a == 48
    then (if starts_x bs then integer_in 16 (run (in_lex Hex) (drop 1 bs)) (behind (in_lex Hex) (drop 1 bs))
    else integer_in 8 (run (in_lex Octal) (a ∷ bs)) (behind (in_lex Octal) (a ∷ bs)))
    else integer_in 10 (run (in_class Digit) (a ∷ bs)) (behind (in_class Digit) (a ∷ bs))
