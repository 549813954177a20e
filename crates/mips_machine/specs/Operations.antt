-- What the operations make of words, when a comparison holds, and which operations of which words have no result.
-- Source: G. Kane and J. Heinrich, MIPS RISC Architecture, 1992, with the macros of its assemblers.
use Rattle.std.specs.Prelude.{ℕ, ◌+◌, ◌-◌, ◌*◌, ◌/◌, ◌%◌, ◌^◌, ◌==◌, ◌&&◌, not, nat_le, nat_lt, int_lt, int_le, int_div, int_rem, ℤ, bit_and, bit_or, bit_xor, Bool, Option, Some, None, if◌then◌else◌}
use Rattle.std.specs.Int.{cast_signed, cast_unsigned, w32, int_shr}
use Rattle.asm_lines.specs.declared.operator.UnaryOp.{UnaryOp}
use Rattle.asm_lines.specs.declared.operator.UnaryOp.TheVariants as unary
use Rattle.asm_lines.specs.declared.operator.BinaryOp.{BinaryOp}
use Rattle.asm_lines.specs.declared.operator.BinaryOp.TheVariants as binary
use Rattle.asm_lines.specs.declared.operator.Condition.{Condition}
use Rattle.asm_lines.specs.declared.operator.Condition.TheVariants as condition
use Rattle.asm_text.specs.declared.running.StuckCause.{StuckCause}
use Rattle.asm_text.specs.declared.running.StuckCause.TheVariants.{ZeroDivisor, DivideOverflow}

-- the signed number of a word
abbrev pub signed : ℕ → ℤ
signed x = cast_signed w32 x

abbrev pub changed : UnaryOp → ℕ → ℕ
changed unary.Negate x = (2 ^ 32 - x) % 2 ^ 32
changed unary.Not x = 2 ^ 32 - 1 - x

-- quotients are truncated, and shifts are by the second modulo 32
abbrev pub combined : BinaryOp → ℕ → ℕ → ℕ
combined binary.Add x y = (x + y) % 2 ^ 32
combined binary.Subtract x y = (x + 2 ^ 32 - y) % 2 ^ 32
combined binary.Multiply x y = (x * y) % 2 ^ 32
combined binary.Divide x y = cast_unsigned w32 (int_div (signed x) (signed y))
combined binary.Remainder x y = cast_unsigned w32 (int_rem (signed x) (signed y))
combined binary.DivideUnsigned x y = x / y
combined binary.RemainderUnsigned x y = x % y
combined binary.And x y = bit_and x y
combined binary.Or x y = bit_or x y
combined binary.Xor x y = bit_xor x y
combined binary.ShiftLeft x y = (x * 2 ^ (y % 32)) % 2 ^ 32
combined binary.ShiftRight x y = x / 2 ^ (y % 32)
combined binary.ShiftRightArithmetic x y = cast_unsigned w32 (int_shr (signed x) (y % 32))

-- a divisor of zero, or the one quotient that is no signed word
abbrev pub signed_cause : ℕ → ℕ → Option StuckCause
signed_cause x y = if y == 0 then Some ZeroDivisor else (if (x == 2 ^ 31) && (y == 2 ^ 32 - 1) then Some DivideOverflow else None)

abbrev pub unsigned_cause : ℕ → Option StuckCause
unsigned_cause y = if y == 0 then Some ZeroDivisor else None

-- why the operation has no result
abbrev pub cause_of : BinaryOp → ℕ → ℕ → Option StuckCause
cause_of binary.Divide x y = signed_cause x y
cause_of binary.Remainder x y = signed_cause x y
cause_of binary.DivideUnsigned x y = unsigned_cause y
cause_of binary.RemainderUnsigned x y = unsigned_cause y
cause_of op x y = None

abbrev pub holds : Condition → ℕ → ℕ → Bool
holds condition.Equal x y = x == y
holds condition.NotEqual x y = not (x == y)
holds condition.Less x y = int_lt (signed x) (signed y)
holds condition.LessEqual x y = int_le (signed x) (signed y)
holds condition.Greater x y = int_lt (signed y) (signed x)
holds condition.GreaterEqual x y = int_le (signed y) (signed x)
holds condition.LessUnsigned x y = nat_lt x y
holds condition.LessEqualUnsigned x y = nat_le x y
holds condition.GreaterUnsigned x y = nat_lt y x
holds condition.GreaterEqualUnsigned x y = nat_le y x
