-- What a program of the first form is as a forest: each `putchar(E)` is the root ARGI(E) and the root CALLI(ADDRGP),
-- and the return is the root RETI(E). Parentheses have no node.
-- Source: Fraser and Hanson, A Retargetable C Compiler, chapter 5.
use Rattle.std.specs.Prelude.{ℕ, pos, Some, None, List, [], ◌∷◌, ◌++◌, flat_map, codes}
use Rattle.lcc_base.specs.declared.order.Order.TheVariants.{Big}
use Rattle.first_form.specs.declared.expression.Operator.{Operator}
use Rattle.first_form.specs.declared.expression.Operator.TheVariants as sign
use Rattle.first_form.specs.Expression.{MExpression, Constant, Negated, Combined, Enclosed}
use Rattle.first_form.specs.FirstProgram.{MProgram}
use Rattle.op_forest.specs.declared.op.Op.{Op}
use Rattle.op_forest.specs.declared.op.Op.TheVariants as op
use Rattle.op_forest.specs.declared.suffix.Suffix.TheVariants.{I, P}
use Rattle.op_forest.specs.declared.sym.Sym.TheVariants as sym
use Rattle.op_forest.specs.declared.lowered.LoweredFunction.{LoweredFunction}
use Rattle.op_forest.specs.Nodes.{Head, Node, Leaf, One, Two}
use Rattle.op_forest.specs.Lowered.{LoweredUnit}

-- an operator of ints, with neither symbol nor constant
abbrev pub int_head : Op → Head
int_head o = record { operator = record { op = o; suffix = I }; sym = sym.Nothing; value = None }

-- a number
abbrev pub constant_head : ℕ → Head
constant_head n = record { operator = record { op = op.Cnst; suffix = I }; sym = sym.Nothing; value = Some (pos n) }

-- the operator of a sign between two operands
abbrev pub op_for : Operator → Op
op_for sign.Add = op.Add
op_for sign.Subtract = op.Sub
op_for sign.Multiply = op.Mul

-- an expression
abbrev pub expression_node : MExpression → Node
expression_node (Constant n) = Leaf (constant_head n)
expression_node (Negated e) = One (int_head op.Neg) (expression_node e)
expression_node (Combined o a b) = Two (int_head (op_for o)) (expression_node a) (expression_node b)
expression_node (Enclosed e) = expression_node e

-- the address of `putchar`, which is name 1 of the unit
abbrev pub putchar_node : Node
putchar_node = Leaf (record { operator = record { op = op.Addrg; suffix = P }; sym = sym.Global 1 (pos 0); value = None })

-- a statement that prints: the argument, and the call that takes it
abbrev pub print_roots : MExpression → List Node
print_roots e = One (int_head op.Arg) (expression_node e) ∷ One (int_head op.Call) putchar_node ∷ []

-- the statement that returns
abbrev pub return_root : MExpression → Node
return_root e = One (int_head op.Ret) (expression_node e)

-- the statements of a program, in order
abbrev pub roots_of : MProgram → List Node
roots_of p = flat_map print_roots p.prints ++ return_root p.result ∷ []

-- the names of each unit: `main` is name 0, and `putchar` name 1
abbrev pub unit_names : List (List ℕ)
unit_names = codes "main" ∷ codes "putchar" ∷ []

-- a program's function, which has no parameters and no slots
abbrev pub main_of : MProgram → LoweredFunction
main_of p = record { name = 0; words = 0; forest = record { roots = roots_of p; frame = [] } }

-- a program as a unit
abbrev pub unit_of : MProgram → LoweredUnit
unit_of p = record { functions = main_of p ∷ []; objects = []; names = unit_names; order = Big }
