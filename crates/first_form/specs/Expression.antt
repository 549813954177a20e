-- Expressions, without where they lie in memory.
use Rattle.std.specs.Prelude.{ℕ}
use Rattle.first_form.specs.declared.expression.Operator.{Operator}
use Rattle.first_form.specs.declared.expression.Expression.{Expression, Number, Negate', Binary', Parentheses'}

pub data MExpression : Type 0 where
  Constant : (n : ℕ) → MExpression
  Negated : (e : MExpression) → MExpression
  Combined : (op : Operator) (a b : MExpression) → MExpression
  Enclosed : (e : MExpression) → MExpression

abbrev pub expression_of : Expression → MExpression
expression_of (Number n) = Constant n
expression_of (Negate' x e) = Negated (expression_of e)
expression_of (Binary' op x a y b) = Combined op (expression_of a) (expression_of b)
expression_of (Parentheses' x e) = Enclosed (expression_of e)
