-- The operators before an operand that give a number of its promoted type.
-- Source: C89 3.3.3.3.
use Rattle.c_ast.specs.declared.operator.PrefixOperator.{PrefixOperator}
use Rattle.c_ast.specs.declared.operator.PrefixOperator.TheVariants as prefix
use Rattle.objects.specs.declared.operators.Unary.{Unary}
use Rattle.objects.specs.declared.operators.Unary.TheVariants as unary

abbrev pub prefix_of : Unary → PrefixOperator
prefix_of unary.Plus = prefix.Plus
prefix_of unary.Negate = prefix.Minus
prefix_of unary.Complement = prefix.Complement
