-- Expressions as tokens:
--   E = T {("+" | "-") T}    T = U {"*" U}    U = "-" U | number | "(" E ")"
-- Source: C89 3.3.1, 3.3.3, 3.3.5 and 3.3.6.
use Rattle.std.specs.Prelude.{◌≤◌, ◌+◌, ℕ, List, ◌∷◌, codes, decimal}
use Rattle.first_form.specs.declared.expression.Operator.{Operator}
use Rattle.first_form.specs.declared.expression.Operator.TheVariants.{Add, Subtract, Multiply}
use Rattle.first_form.specs.Tokens.{Token}
use Rattle.first_form.specs.Expression.{MExpression, Constant, Negated, Combined, Enclosed}

abbrev pub sign_of : Operator → Token
sign_of Add = codes "+"
sign_of Subtract = codes "-"
sign_of Multiply = codes "*"

-- the tokens of an expression, and rest behind them; a number is decimal, with no zero before it
abbrev pub tokens_then : MExpression → List Token → List Token
tokens_then (Constant n) rest = decimal n ∷ rest
tokens_then (Negated e) rest = codes "-" ∷ tokens_then e rest
tokens_then (Combined op a b) rest = tokens_then a (sign_of op ∷ tokens_then b rest)
tokens_then (Enclosed e) rest = codes "(" ∷ tokens_then e (codes ")" ∷ rest)

-- E is of level 0, T of level 1 and U of level 2
abbrev pub level_of : Operator → ℕ
level_of Add = 0
level_of Subtract = 0
level_of Multiply = 1

-- the grammar derives the expression from E, T or U, by the level: operators of one level lean left
abbrev pub Derives : ℕ → MExpression → Type 0
Derives level (Constant n) = n ≤ 2147483647
Derives level (Negated e) = Derives 2 e
Derives level (Combined op a b) = (level ≤ level_of op) × Derives (level_of op) a × Derives (level_of op + 1) b
Derives level (Enclosed e) = Derives 0 e
