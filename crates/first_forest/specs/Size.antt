-- How many nodes a program has as a tree.
use Rattle.std.specs.Prelude.{ℕ, ◌+◌, sum_by}
use Rattle.first_form.specs.Expression.{MExpression, Constant, Negated, Combined, Enclosed}
use Rattle.first_form.specs.FirstProgram.{MProgram}

-- one for each number, each operator and each pair of parentheses
abbrev pub expression_nodes : MExpression → ℕ
expression_nodes (Constant n) = 1
expression_nodes (Negated e) = expression_nodes e + 1
expression_nodes (Combined o a b) = expression_nodes a + expression_nodes b + 1
expression_nodes (Enclosed e) = expression_nodes e + 1

-- one more for a statement
abbrev pub statement_nodes : MExpression → ℕ
statement_nodes e = expression_nodes e + 1

-- one for the function, and those of its statements
abbrev pub program_nodes : MProgram → ℕ
program_nodes p = sum_by statement_nodes p.prints + statement_nodes p.result + 1
