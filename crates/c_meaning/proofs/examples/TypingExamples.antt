-- Examples of which fault is told first of a tree, and at which line.
use Rattle.std.specs.Prelude.{◌≡◌, refl, ℕ, zero, suc, codes, false, Option, Some, None, List, [], ◌∷◌}
use Rattle.lcc_base.specs.declared.which.Which.TheVariants as which
use Rattle.c_ast.specs.declared.class.IntKind.TheVariants as int_kind
use Rattle.c_ast.specs.declared.operator.AssignOperator.TheVariants as assign
use Rattle.c_ast.specs.declared.operator.BinaryOperator.TheVariants as binary
use Rattle.c_ast.specs.declared.operator.PostfixOperator.TheVariants as postfix
use Rattle.c_ast.specs.declared.operator.PrefixOperator.TheVariants as prefix
use Rattle.c_ast.specs.declared.specifier.BasicType.TheVariants as word
use Rattle.c_ast.specs.declared.specifier.RecordKind.TheVariants as record_kind
use Rattle.c_ast.specs.Trees.{ExprTree, Name, Integer, Enclosed, Call, Postfix, Prefix, SizeofType, Binary, Assign, NoExprs, Exprs, NoExpr, AnExpr, TypeNamed, SpecifiersTree, Specified, SpecifierTree, Basic, Record, RecordTag, Enum, NoSpecifiers, Specifiers, Members, NoMembers, MoreMembers, Field, NoFields, Fields, Enumerator, NoEnumerators, Enumerators, Declarator, MaybeDeclarator, NoDeclarator, ADeclarator, Named, Inner, Omitted, SuffixTree, ArraySuffix, Prototype, NameList, NoSuffixes, Suffixes, Parameter, NoParameter, Parameters}
use Rattle.c_types.specs.CType.{CType}
use Rattle.c_meaning.specs.CoreTrees.{NoCore, Cores}
use Rattle.c_meaning.specs.Types.{pointer_to}
use Rattle.c_meaning.specs.Values.{CoreTrees}
use Rattle.c_meaning.specs.Constants.{fold}
use Rattle.c_meaning.specs.Constraints.{Fault, Breaks, Passes, fault_at}
use Rattle.c_meaning.specs.Typing.{typed}
use Rattle.c_meaning.specs.Laws.{fault_of}
use Rattle.c_meaning.specs.Nodes.{ExprNode, Expression}
use Rattle.c_meaning.specs.Nodes as node
use Rattle.c_meaning.specs.Samples.{sample, g, local}
use Rattle.c_meaning.specs.Samples as samples

-- the fault of an expression in the function, if there is any
abbrev fault : ExprTree → Option Fault
fault e = fault_of (typed sample e)

-- ---- trees, of line 1 where no line is given

abbrev x : ExprTree
x = Name 1 (codes "x")

abbrev f : ExprTree
f = Name 1 (codes "f")

-- a name that isn't declared
abbrev y : ℕ → ExprTree
y line = Name line (codes "y")

abbrev one : ExprTree
one = Integer 1 1 int_kind.Int

abbrev address : ExprTree → ExprTree
address e = Prefix 1 prefix.Address e

abbrev specified : SpecifierTree → SpecifiersTree
specified s = Specified 1 (Specifiers s NoSpecifiers)

abbrev int : SpecifiersTree
int = specified (Basic 1 word.Int)

-- `sizeof` of a type, which a declarator without a name may go on
abbrev size_of : SpecifiersTree → ExprTree
size_of specs = SizeofType 1 (TypeNamed 1 specs NoDeclarator)

abbrev size_of_formed : SpecifiersTree → SuffixTree → ExprTree
size_of_formed specs suffix = SizeofType 1 (TypeNamed 1 specs (ADeclarator (Declarator 1 [] Omitted (Suffixes suffix NoSuffixes))))

abbrev array_of : ℕ → SuffixTree
array_of n = ArraySuffix 1 (AnExpr (Integer 1 n int_kind.Int))

abbrev named : List ℕ → MaybeDeclarator
named n = ADeclarator (Declarator 2 [] (Named n) NoSuffixes)

-- sizeof(int (*)(int n, int m)), each parameter's declarator in line 2
abbrev size_of_function_pointer : List ℕ → List ℕ → ExprTree
size_of_function_pointer n m =
    SizeofType 1 (TypeNamed 1 int (ADeclarator (Declarator 1 [] (Inner (Declarator 1 ([] ∷ []) Omitted NoSuffixes)) (Suffixes (Prototype 1 (Parameters (Parameter 1 int (named n)) (Parameters (Parameter 1 int (named m)) NoParameter)) false) NoSuffixes))))

-- struct {int n, m;}, its second member in line 2
abbrev structure : List ℕ → List ℕ → SpecifierTree
structure n m =
    Record 1 record_kind.Struct None (MoreMembers (Members 1 int (Fields (Field 1 (named n) NoExpr) (Fields (Field 2 (named m) NoExpr) NoFields))) NoMembers)

-- ---- names and calls

-- x+1
sum : fault (Binary 1 binary.Add x one) ≡ None
unfolding fold fault_at
sum = refl

-- x+y
sum_of_an_undeclared_name : fault (Binary 1 binary.Add x (y 2)) ≡ Some (Breaks 28 2)
unfolding fold fault_at
sum_of_an_undeclared_name = refl

-- y(1)
call_declares_a_name : fault (Call 1 (y 1) (Exprs one NoExprs)) ≡ None
unfolding fold fault_at
call_declares_a_name = refl

-- (y)(1)
call_in_parentheses_declares_none : fault (Call 1 (Enclosed 1 (y 2)) (Exprs one NoExprs)) ≡ Some (Breaks 28 2)
unfolding fold fault_at
call_in_parentheses_declares_none = refl

-- y(y)
declared_before_its_arguments : fault (Call 1 (y 1) (Exprs (y 2) NoExprs)) ≡ None
unfolding fold fault_at
declared_before_its_arguments = refl

-- y(1)+y
declared_behind_the_call : fault (Binary 1 binary.Add (Call 1 (y 1) (Exprs one NoExprs)) (y 2)) ≡ Some (Breaks 41 1)
unfolding fold fault_at
declared_behind_the_call = refl

-- narrow(1)
call_of_what_is_declared_otherwise : fault (Call 1 (Name 2 (codes "narrow")) (Exprs one NoExprs)) ≡ Some (Breaks 6 2)
unfolding fold fault_at
call_of_what_is_declared_otherwise = refl

-- ---- parts before wholes, and from left to right

-- f()+y
left_part_first : fault (Binary 1 binary.Add (Call 3 f NoExprs) (y 2)) ≡ Some (Breaks 30 3)
unfolding fold fault_at
left_part_first = refl

-- f(y)
argument_before_its_call : fault (Call 1 f (Exprs (y 2) (Exprs x NoExprs))) ≡ Some (Breaks 28 2)
unfolding fold fault_at
argument_before_its_call = refl

-- f(&x,1)
number_before_kind : fault (Call 1 f (Exprs (address x) (Exprs one NoExprs))) ≡ Some (Breaks 30 1)
unfolding fold fault_at
number_before_kind = refl

-- f(&x)
kind_of_an_argument : fault (Call 1 f (Exprs (address x) NoExprs)) ≡ Some (Breaks 31 1)
unfolding fold fault_at
kind_of_an_argument = refl

-- ---- smaller numbers first

-- 1+=&x
place_before_kind : fault (Assign 1 assign.Add one (address x)) ≡ Some (Breaks 34 1)
unfolding fold fault_at
place_before_kind = refl

-- x+=&x
kind_of_an_operand : fault (Assign 1 assign.Add x (address x)) ≡ Some (Breaks 40 1)
unfolding fold fault_at
kind_of_an_operand = refl

-- f++
place_before_elements : fault (Postfix 1 postfix.Increment f) ≡ Some (Breaks 34 1)
unfolding fold fault_at
place_before_elements = refl

-- f+1
elements : fault (Binary 1 binary.Add f one) ≡ Some (Breaks 41 1)
unfolding fold fault_at
elements = refl

-- &x<1
order_of_other_kinds : fault (Binary 1 binary.Less (address x) one) ≡ Some (Breaks 42 1)
unfolding fold fault_at
order_of_other_kinds = refl

-- ---- types

-- sizeof(double)
floating_type : fault (size_of (specified (Basic 1 word.Double))) ≡ Some (Breaks 1 1)
unfolding fold fault_at
floating_type = refl

-- sizeof(char short)
words_that_form_no_type : fault (size_of (Specified 2 (Specifiers (Basic 2 word.Char) (Specifiers (Basic 2 word.Short) NoSpecifiers)))) ≡ Some (Breaks 2 2)
unfolding fold fault_at
words_that_form_no_type = refl

-- sizeof(float short)
floating_type_before_no_type : fault (size_of (Specified 1 (Specifiers (Basic 1 word.Float) (Specifiers (Basic 1 word.Short) NoSpecifiers)))) ≡ Some (Breaks 1 1)
unfolding fold fault_at
floating_type_before_no_type = refl

-- sizeof(void)
no_size : fault (size_of (specified (Basic 1 word.Void))) ≡ Some (Breaks 38 1)
unfolding fold fault_at
no_size = refl

-- sizeof(struct s)
structure_that_is_defined : fault (size_of (specified (RecordTag 1 record_kind.Struct (codes "s")))) ≡ None
unfolding fold fault_at
structure_that_is_defined = refl

-- sizeof(struct new)
structure_that_is_not_defined : fault (size_of (specified (RecordTag 1 record_kind.Struct (codes "new")))) ≡ Some (Breaks 38 1)
unfolding fold fault_at
structure_that_is_not_defined = refl

-- sizeof(union s)
structure_as_a_union : fault (size_of (specified (RecordTag 2 record_kind.Union (codes "s")))) ≡ Some (Breaks 8 2)
unfolding fold fault_at
structure_as_a_union = refl

-- sizeof(struct{int a,b;})
members : fault (size_of (specified (structure (codes "a") (codes "b")))) ≡ None
unfolding fold fault_at
members = refl

-- sizeof(struct{int a,a;})
member_twice : fault (size_of (specified (structure (codes "a") (codes "a")))) ≡ Some (Breaks 9 2)
unfolding fold fault_at
member_twice = refl

-- sizeof(enum{x})
enumerator_with_a_name_of_its_scope : fault (size_of (specified (Enum 1 None (Enumerators (Enumerator 2 (codes "x") NoExpr) NoEnumerators) false))) ≡ Some (Breaks 5 2)
unfolding fold fault_at
enumerator_with_a_name_of_its_scope = refl

-- sizeof(enum{y})+y
enumerator_in_force_behind_it : fault (Binary 1 binary.Add (size_of (specified (Enum 1 None (Enumerators (Enumerator 1 (codes "y") NoExpr) NoEnumerators) false))) (y 2)) ≡ None
unfolding fold fault_at
enumerator_in_force_behind_it = refl

-- sizeof(int[2])
array : fault (size_of_formed int (array_of 2)) ≡ None
unfolding fold fault_at
array = refl

-- sizeof(int[0])
array_of_no_element : fault (size_of_formed int (array_of 0)) ≡ Some (Breaks 13 1)
unfolding fold fault_at
array_of_no_element = refl

-- sizeof(void[2])
array_of_void : fault (size_of_formed (specified (Basic 1 word.Void)) (array_of 2)) ≡ Some (Breaks 14 1)
unfolding fold fault_at
array_of_void = refl

-- sizeof(int(a))
list_of_names : fault (size_of_formed int (NameList 1 (codes "a" ∷ []))) ≡ Some (Breaks 19 1)
unfolding fold fault_at
list_of_names = refl

-- sizeof(int(*)(int a,int b))
pointer_to_a_function : fault (size_of_function_pointer (codes "a") (codes "b")) ≡ None
unfolding fold fault_at
pointer_to_a_function = refl

-- sizeof(int(*)(int a,int a))
parameter_twice : fault (size_of_function_pointer (codes "a") (codes "a")) ≡ Some (Breaks 5 2)
unfolding fold fault_at
parameter_twice = refl

-- ---- limits behind constraints

-- so many pointers, one over the other, to int
abbrev pointers : ℕ → CType
pointers zero = samples.int
pointers (suc n) = pointer_to (pointers n)

-- a call of g with so many arguments
abbrev arguments : ℕ → CoreTrees
arguments zero = NoCore
arguments (suc n) = Cores samples.x (arguments n)

abbrev at_expression : ExprNode → Option Fault
at_expression n = fault_at sample 1 (Expression n)

address_of_a_deep_type : at_expression (node.Prefix prefix.Address (local (pointers 499))) ≡ Some (Passes which.Depth 1)
unfolding fold fault_at
address_of_a_deep_type = refl

address_of_a_less_deep_type : at_expression (node.Prefix prefix.Address (local (pointers 498))) ≡ None
unfolding fold fault_at
address_of_a_less_deep_type = refl

too_many_arguments : at_expression (node.Call g (arguments 128)) ≡ Some (Passes which.Parameters 1)
unfolding fold fault_at
too_many_arguments = refl

as_many_arguments_as_may_be : at_expression (node.Call g (arguments 127)) ≡ None
unfolding fold fault_at
as_many_arguments_as_may_be = refl

-- sizeof(char[16777216])
greatest_array : fault (size_of_formed (specified (Basic 1 word.Char)) (array_of 16777216)) ≡ None
unfolding fold fault_at
greatest_array = refl

-- sizeof(char[16777217])
too_large_an_array : fault (size_of_formed (specified (Basic 1 word.Char)) (array_of 16777217)) ≡ Some (Passes which.Object 1)
unfolding fold fault_at
too_large_an_array = refl

-- sizeof(void[16777217])
element_before_size : fault (size_of_formed (specified (Basic 1 word.Void)) (array_of 16777217)) ≡ Some (Breaks 14 1)
unfolding fold fault_at
element_before_size = refl
