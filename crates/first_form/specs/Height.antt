-- How many nodes stand on the longest way down: each number, each operator and each pair of parentheses is one.
use Rattle.std.specs.Prelude.{ℕ, ◌+◌, max}
use Rattle.first_form.specs.Expression.{MExpression, Constant, Negated, Combined, Enclosed}

abbrev pub height : MExpression → ℕ
height (Constant n) = 1
height (Negated e) = height e + 1
height (Combined op a b) = max (height a) (height b) + 1
height (Enclosed e) = height e + 1
