-- The constraints and limits of expressions, specifiers and declarators, and which is told first at a node.
use Rattle.std.specs.Prelude.{ℕ, ◌+◌, ◌||◌, Bool, false, nat_lt, Option, Some, None, List, [], ◌∷◌, ◌++◌, length, if◌then◌else◌}
use Rattle.lcc_base.specs.declared.which.Which.{Which}
use Rattle.lcc_base.specs.declared.which.Which.TheVariants as which
use Rattle.c_ast.specs.declared.operator.MemberOperator.TheVariants as member
use Rattle.c_types.specs.CType.{CType, depth}
use Rattle.c_types.specs.Layout.{Tag, fields, known, structure_extent, extent}
use Rattle.c_types.specs.Table.{is_above}
use Rattle.c_types.specs.declared.extent.Extent.{Extent}
use Rattle.c_meaning.specs.CoreTrees.{NoCore, Cores, type_of}
use Rattle.c_meaning.specs.State.{State}
use Rattle.c_meaning.specs.Values.{CoreTrees, value_type}
use Rattle.c_meaning.specs.Nodes.{Node, Expression, Typing, ExprNode, TypeNode, Step, ToFunction}
use Rattle.c_meaning.specs.Nodes as node
use Rattle.c_meaning.specs.Rows.{row}
use Rattle.c_meaning.specs.TypeRows.{formed_by, adjusted, is_union}
use Rattle.c_meaning.specs.ExprConstraints as expr
use Rattle.c_meaning.specs.TypeConstraints as type

-- ---- constraints

abbrev pub on_expression : (State → ExprNode → Bool) → State → Node → Bool
on_expression test s (Expression n) = test s n
on_expression test s (Typing n) = false

abbrev pub on_type : (State → TypeNode → Bool) → State → Node → Bool
on_type test s (Typing n) = test s n
on_type test s (Expression n) = false

-- a number, and when a node breaks it
pub record Constraint : Type 0 where
  pub number : ℕ
  pub is_broken : State → Node → Bool

abbrev of_type : ℕ → (State → TypeNode → Bool) → Constraint
of_type number test = record { number = number; is_broken = on_type test }

abbrev of_expression : ℕ → (State → ExprNode → Bool) → Constraint
of_expression number test = record { number = number; is_broken = on_expression test }

-- all of them, smaller numbers first
abbrev pub constraints : List Constraint
constraints =
    of_type 1 type.has_floating ∷
    of_type 2 type.forms_no_type ∷
    of_type 3 type.has_bad_class ∷
    of_type 5 type.is_declared_twice ∷
    of_expression 6 expr.redeclares_otherwise ∷
    of_type 8 type.misuses_tag ∷
    of_type 9 type.repeats_member ∷
    of_type 10 type.has_no_object ∷
    of_type 11 type.is_bad_field ∷
    of_type 12 type.is_bad_enumerator ∷
    of_type 13 type.has_bad_size ∷
    of_type 14 type.has_bad_element ∷
    of_type 15 type.has_bad_result ∷
    of_type 17 type.is_bad_void ∷
    of_type 19 type.has_name_list ∷
    of_expression 28 expr.is_undeclared ∷
    of_expression 29 expr.calls_no_function ∷
    of_expression 30 expr.has_other_number ∷
    of_expression 31 expr.passes_unfit ∷
    of_expression 32 expr.is_no_subscript ∷
    of_expression 33 expr.selects_nothing ∷
    of_expression 34 expr.changes_nothing ∷
    of_expression 35 expr.has_no_address ∷
    of_expression 36 expr.is_no_pointer ∷
    of_expression 37 expr.has_no_operand ∷
    of_expression 38 expr.has_no_size ∷
    of_expression 39 expr.is_bad_cast ∷
    of_expression 40 expr.has_other_kind ∷
    of_expression 41 expr.has_no_elements ∷
    of_expression 42 expr.compares_unfit ∷
    of_expression 43 expr.tests_no_scalar ∷
    of_expression 44 expr.chooses_unfit ∷
    of_expression 45 expr.assigns_unfit ∷
    of_expression 46 expr.uses_no_value ∷ []

abbrev pub first_broken : List Constraint → State → Node → Option ℕ
first_broken [] s n = None
first_broken (c ∷ cs) s n = if c.is_broken s n then Some c.number else first_broken cs s n

-- ---- limits

abbrev pub value_types : CoreTrees → List CType
value_types NoCore = []
value_types (Cores c cs) = value_type c ∷ value_types cs

-- the types of the values of the parts of an expression whose values it uses
abbrev pub operand_types : ExprNode → List CType
operand_types (node.Index a i) = value_type a ∷ value_type i ∷ []
operand_types (node.Call f arguments) = value_type f ∷ value_types arguments
operand_types (node.Member member.Arrow a x) = value_type a ∷ []
operand_types (node.Prefix op a) = value_type a ∷ []
operand_types (node.Cast to a) = value_type a ∷ []
operand_types (node.Binary op a b) = value_type a ∷ value_type b ∷ []
operand_types (node.Conditional a b c) = value_type a ∷ value_type b ∷ value_type c ∷ []
operand_types (node.Assign op a b) = value_type b ∷ []
operand_types (node.Comma parts) = value_types parts
operand_types n = []

-- the types that a declarator forms, in their order
abbrev pub formings : CType → List Step → List CType
formings t [] = []
formings t (p ∷ ps) = formed_by p t ∷ formings (formed_by p t) ps

-- the extents of the types that a node forms
abbrev pub extents : List Tag → List CType → List Extent
extents tags [] = []
extents tags (t ∷ ts) = extent tags t ∷ extents tags ts

-- the types that are formed at a node, apart from a structure
abbrev pub types_formed : State → ℕ → Node → List CType
types_formed s line (Expression n) = operand_types n ++ type_of (row s line n) ∷ []
types_formed s line (Typing (node.Declarator base steps)) = formings base steps
types_formed s line (Typing (node.ParameterDeclarator name base steps)) = formings base steps
types_formed s line (Typing (node.Parameter classes name of alone)) = adjusted of ∷ []
types_formed s line (Typing n) = []

-- with the structure
abbrev pub extents_formed : State → ℕ → Node → List Extent
extents_formed s line (Typing (node.Record k tag number members)) = structure_extent (is_union k) (fields (known s.tags) members) ∷ []
extents_formed s line n = extents s.tags (types_formed s line n)

abbrev pub some_large : List Extent → Bool
some_large [] = false
some_large (e ∷ es) = is_above e.size || some_large es

abbrev pub some_nested : List Extent → Bool
some_nested [] = false
some_nested (e ∷ es) = nat_lt 500 e.nesting || some_nested es

abbrev pub some_deep : List CType → Bool
some_deep [] = false
some_deep (t ∷ ts) = nat_lt 500 (depth t) || some_deep ts

abbrev pub count_of : CoreTrees → ℕ
count_of NoCore = 0
count_of (Cores c cs) = 1 + count_of cs

abbrev pub has_many : Step → Bool
has_many (ToFunction parameters more scope) = nat_lt 127 (length parameters)
has_many p = false

abbrev pub some_many : List Step → Bool
some_many [] = false
some_many (p ∷ ps) = has_many p || some_many ps

-- a type that is too large, too deep or nested, or too many parameters or arguments
abbrev pub passes_size : State → ℕ → Node → Bool
passes_size s line n = some_large (extents_formed s line n)

abbrev pub passes_depth : State → ℕ → Node → Bool
passes_depth s line n = some_nested (extents_formed s line n) || some_deep (types_formed s line n)

abbrev pub passes_number : State → ℕ → Node → Bool
passes_number s line (Expression (node.Call f arguments)) = nat_lt 127 (count_of arguments)
passes_number s line (Typing (node.Declarator base steps)) = some_many steps
passes_number s line (Typing (node.ParameterDeclarator name base steps)) = some_many steps
passes_number s line n = false

abbrev pub first_passed : State → ℕ → Node → Option Which
first_passed s line n =
    if passes_size s line n then Some which.Object
    else if passes_depth s line n then Some which.Depth
    else if passes_number s line n then Some which.Parameters
    else None

-- ---- what is told

pub data Fault : Type 0 where
  Breaks : (number line : ℕ) → Fault
  Passes : (limit : Which) (line : ℕ) → Fault

abbrev pub passed_fault : ℕ → Option Which → Option Fault
passed_fault line (Some limit) = Some (Passes limit line)
passed_fault line None = None

abbrev pub broken_or : ℕ → Option ℕ → Option Which → Option Fault
broken_or line (Some number) limit = Some (Breaks number line)
broken_or line None limit = passed_fault line limit

-- at one node constraints go before limits, smaller numbers first, and a size before a depth before a number
unfoldable pub fault_at : State → ℕ → Node → Option Fault
fault_at s line n = broken_or line (first_broken constraints s n) (first_passed s line n)
