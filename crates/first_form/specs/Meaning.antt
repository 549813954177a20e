-- What a program of the first form does: it prints the low byte of each value, and ends with the last value. Numbers
-- have 32 bits, and what doesn't fit them wraps round.
-- Source: C89 2.1.2.2, 3.3 and 4.9.7.9, with arithmetic modulo 2 ^ 32.
use Rattle.std.specs.Prelude.{ℕ, ℤ, ◌+◌, ◌-◌, ◌*◌, ◌%◌, ◌^◌, List, map}
use Rattle.std.specs.Int.{cast_signed, w32}
use Rattle.first_form.specs.declared.expression.Operator.{Operator}
use Rattle.first_form.specs.declared.expression.Operator.TheVariants.{Add, Subtract, Multiply}
use Rattle.first_form.specs.Expression.{MExpression, Constant, Negated, Combined, Enclosed}
use Rattle.first_form.specs.FirstProgram.{MProgram}

abbrev pub combined : Operator → ℕ → ℕ → ℕ
combined Add x y = (x + y) % 2 ^ 32
combined Subtract x y = (x + 2 ^ 32 - y) % 2 ^ 32
combined Multiply x y = (x * y) % 2 ^ 32

abbrev pub negated : ℕ → ℕ
negated x = (2 ^ 32 - x) % 2 ^ 32

-- the number modulo 2 ^ 32
abbrev pub value : MExpression → ℕ
value (Constant n) = n
value (Negated e) = negated (value e)
value (Combined op a b) = combined op (value a) (value b)
value (Enclosed e) = value e

-- the bytes that are printed
abbrev pub output : MProgram → List ℕ
output p = map (λ e. value e % 256) p.prints

-- what the program returns, as a signed number
abbrev pub status : MProgram → ℤ
status p = cast_signed w32 (value p.result)
