-- The constraints on expressions, one by one, each a test of a construct whose parts are typed.
-- Source: C89 3.3, in the profile of this compiler.
use Rattle.std.specs.Prelude.{ℕ, ◌&&◌, ◌||◌, not, Bool, true, false, Option, Some, None, List, is_none}
use Rattle.c_ast.specs.declared.operator.BinaryOperator.{BinaryOperator}
use Rattle.c_ast.specs.declared.operator.BinaryOperator.TheVariants as binary
use Rattle.c_ast.specs.declared.operator.AssignOperator.{AssignOperator}
use Rattle.c_ast.specs.declared.operator.AssignOperator.TheVariants as assign
use Rattle.c_ast.specs.declared.operator.PrefixOperator.TheVariants as prefix
use Rattle.c_ast.specs.declared.operator.MemberOperator.{MemberOperator}
use Rattle.c_ast.specs.declared.operator.MemberOperator.TheVariants as member
use Rattle.c_symbols.specs.Scoping.{symbol_named}
use Rattle.c_types.specs.CType.{CType, Parameters, Open, Listed, CTypes, NoType, And}
use Rattle.c_types.specs.Compatible.{compatible, same_flag}
use Rattle.c_types.specs.Conversions.{is_integer}
use Rattle.c_types.specs.Layout.{Tag}
use Rattle.c_meaning.specs.CoreTrees.{NoCore, Cores, type_of}
use Rattle.c_meaning.specs.State.{State, place_of, known_at, int_function}
use Rattle.c_meaning.specs.Types.{is_void, is_pointer, is_function, is_array, is_record, is_scalar, target, qualifiers_of, holds_qualifiers, alike, has_size}
use Rattle.c_types.specs.Constness.{has_const}
use Rattle.c_meaning.specs.Values.{CoreTree, CoreTrees, value, values, value_type, is_lvalue, is_register, is_bit_field}
use Rattle.c_meaning.specs.Constants.{is_null}
use Rattle.c_types.specs.Members.{member_of}
use Rattle.c_meaning.specs.Rows.{called, result_type, parameters_type}
use Rattle.c_meaning.specs.Nodes.{ExprNode}
use Rattle.c_meaning.specs.Nodes as node

-- ---- names

-- 6: a call of an undeclared name declares a function, which isn't compatible with what the name has been declared as
abbrev pub differs_from_int_function : State → Option ℕ → Bool
differs_from_int_function s None = false
differs_from_int_function s (Some id) = not (compatible (known_at s id).of int_function)

abbrev pub redeclares_otherwise : State → ExprNode → Bool
redeclares_otherwise s (node.NewFunction x) = differs_from_int_function s (symbol_named s.links x)
redeclares_otherwise s n = false

-- 28: a name isn't declared and isn't called
abbrev pub is_undeclared : State → ExprNode → Bool
is_undeclared s (node.Name x) = is_none (place_of s x)
is_undeclared s n = false

-- ---- calls

abbrev pub is_open_record : List Tag → CType → Bool
is_open_record tags t = is_record t && not (has_size tags t)

-- 29: what is called isn't a function or pointer to one, or its result is an incomplete structure or union
abbrev pub calls_no_function : State → ExprNode → Bool
calls_no_function s (node.Call f arguments) =
    not (is_pointer (value_type f) && is_function (called (value f))) || is_open_record s.tags (result_type (called (value f)))
calls_no_function s n = false

abbrev pub as_many : CTypes → Bool → CoreTrees → Bool
as_many NoType more NoCore = true
as_many NoType more (Cores v vs) = more
as_many (And p ps) more NoCore = false
as_many (And p ps) more (Cores v vs) = as_many ps more vs

abbrev pub are_as_many : Parameters → CoreTrees → Bool
are_as_many Open vs = true
are_as_many (Listed ps more) vs = as_many ps more vs

-- 30: the number of arguments differs from the prototype's
abbrev pub has_other_number : State → ExprNode → Bool
has_other_number s (node.Call f arguments) = not (are_as_many (parameters_type (called (value f))) (values arguments))
has_other_number s n = false

-- what a pointer of the second type may be assigned to: pointers to compatible types, or one to void, with at least its
-- qualifiers
abbrev pub points_alike : CType → CType → Bool
points_alike t u = holds_qualifiers (qualifiers_of t) (qualifiers_of u) && (alike t u || (is_void t || is_void u))

-- Assignable: arithmetic to arithmetic; compatible structures; pointers; a null pointer constant to a pointer (C89 3.3.16.1)
abbrev pub is_assignable : CType → CoreTree → Bool
is_assignable to v =
    (is_integer to && is_integer (type_of v))
    || ((is_record to && alike to (type_of v))
    || (is_pointer to && ((is_pointer (type_of v) && points_alike (target to) (target (type_of v))) || is_null v)))

-- it has a value that can be handed over
abbrev pub is_passable : List Tag → CoreTree → Bool
is_passable tags v = is_scalar (type_of v) || (is_record (type_of v) && has_size tags (type_of v))

abbrev pub all_passable : List Tag → CoreTrees → Bool
all_passable tags NoCore = true
all_passable tags (Cores v vs) = is_passable tags v && all_passable tags vs

abbrev pub all_assignable : CTypes → CoreTrees → Bool
all_assignable (And p ps) (Cores v vs) = is_assignable p v && all_assignable ps vs
all_assignable ps vs = true

abbrev pub are_assignable : Parameters → CoreTrees → Bool
are_assignable Open vs = true
are_assignable (Listed ps more) vs = all_assignable ps vs

-- 31: an argument isn't assignable to its parameter, or is void or incomplete
abbrev pub passes_unfit : State → ExprNode → Bool
passes_unfit s (node.Call f arguments) =
    not (are_assignable (parameters_type (called (value f))) (values arguments) && all_passable s.tags (values arguments))
passes_unfit s n = false

-- ---- places

abbrev pub points_to_object : List Tag → CType → Bool
points_to_object tags t = is_pointer t && has_size tags (target t)

-- 32: a subscript isn't a pointer to an object and an integer
abbrev pub is_no_subscript : State → ExprNode → Bool
is_no_subscript s (node.Index a i) =
    not
    ((points_to_object s.tags (value_type a) && is_integer (value_type i))
    || (is_integer (value_type a) && points_to_object s.tags (value_type i)))
is_no_subscript s n = false

abbrev pub has_no_member : List Tag → MemberOperator → CoreTree → List ℕ → Bool
has_no_member tags member.Dot a x = is_none (member_of tags (type_of a) x)
has_no_member tags member.Arrow a x = not (is_pointer (value_type a)) || is_none (member_of tags (target (value_type a)) x)

-- 33: `.` or `->` has no structure or union before it, or no such member
abbrev pub selects_nothing : State → ExprNode → Bool
selects_nothing s (node.Member op a x) = has_no_member s.tags op a x
selects_nothing s n = false

-- an lvalue of an object that may be changed: no array, not incomplete, and nothing of it const (C89 3.2.2.1)
abbrev pub is_modifiable : List Tag → CoreTree → Bool
is_modifiable tags a = is_lvalue a && (has_size tags (type_of a) && not (is_array (type_of a) || has_const tags (type_of a)))

-- 34: `=`, a compound assignment, `++` or `--` has no modifiable lvalue
abbrev pub changes_nothing : State → ExprNode → Bool
changes_nothing s (node.Assign op a b) = not (is_modifiable s.tags a)
changes_nothing s (node.Postfix op a) = not (is_modifiable s.tags a)
changes_nothing s (node.Prefix prefix.Increment a) = not (is_modifiable s.tags a)
changes_nothing s (node.Prefix prefix.Decrement a) = not (is_modifiable s.tags a)
changes_nothing s n = false

-- it has an address
abbrev pub is_addressable : CoreTree → Bool
is_addressable a =
    is_function (type_of a) || (is_lvalue a && not (is_void (type_of a) || (is_bit_field a || is_register a)))

-- 35: `&` of neither function nor lvalue, or of a bit-field or register object
abbrev pub has_no_address : State → ExprNode → Bool
has_no_address s (node.Prefix prefix.Address a) = not (is_addressable a)
has_no_address s n = false

-- 36: `*` of no pointer
abbrev pub is_no_pointer : State → ExprNode → Bool
is_no_pointer s (node.Prefix prefix.Indirect a) = not (is_pointer (value_type a))
is_no_pointer s n = false

-- ---- operators with one operand

-- 37: unary `+ -` of no arithmetic, `~` of no integer, `!` of no scalar
abbrev pub has_no_operand : State → ExprNode → Bool
has_no_operand s (node.Prefix prefix.Plus a) = not (is_integer (value_type a))
has_no_operand s (node.Prefix prefix.Minus a) = not (is_integer (value_type a))
has_no_operand s (node.Prefix prefix.Complement a) = not (is_integer (value_type a))
has_no_operand s (node.Prefix prefix.Not a) = not (is_scalar (value_type a))
has_no_operand s n = false

-- 38: `sizeof` a function, incomplete type or bit-field
abbrev pub has_no_size : State → ExprNode → Bool
has_no_size s (node.SizeofExpr a) = is_bit_field a || not (has_size s.tags (type_of a))
has_no_size s (node.SizeofType t) = not (has_size s.tags t)
has_no_size s n = false

-- 39: a cast to neither void nor scalar, or of no scalar to a scalar
abbrev pub is_bad_cast : State → ExprNode → Bool
is_bad_cast s (node.Cast to a) = not (is_void to || (is_scalar to && is_scalar (value_type a)))
is_bad_cast s n = false

-- ---- operators with two operands

abbrev pub are_integers : CType → CType → Bool
are_integers t u = is_integer t && is_integer u

-- the operands of `+`, and of `-`
abbrev pub can_add : CType → CType → Bool
can_add t u = are_integers t u || ((is_pointer t && is_integer u) || (is_integer t && is_pointer u))

abbrev pub can_subtract : CType → CType → Bool
can_subtract t u = are_integers t u || ((is_pointer t && is_integer u) || (is_pointer t && is_pointer u))

-- of `+=`, `-=`, `++` and `--`
abbrev pub can_step : CType → CType → Bool
can_step t u = is_integer u && (is_integer t || is_pointer t)

abbrev pub can_combine : BinaryOperator → CType → CType → Bool
can_combine binary.Or t u = true
can_combine binary.And t u = true
can_combine binary.Equal t u = true
can_combine binary.NotEqual t u = true
can_combine binary.Less t u = true
can_combine binary.Greater t u = true
can_combine binary.LessEqual t u = true
can_combine binary.GreaterEqual t u = true
can_combine binary.Add t u = can_add t u
can_combine binary.Subtract t u = can_subtract t u
can_combine op t u = are_integers t u

abbrev pub can_assign : AssignOperator → CType → CType → Bool
can_assign assign.Plain t u = true
can_assign assign.Add t u = can_step t u
can_assign assign.Subtract t u = can_step t u
can_assign op t u = are_integers t u

abbrev pub can_be_stepped : CType → Bool
can_be_stepped t = is_integer t || is_pointer t

-- 40: a binary arithmetic, bit or shift operator has an operand of another kind
abbrev pub has_other_kind : State → ExprNode → Bool
has_other_kind s (node.Binary op a b) = not (can_combine op (value_type a) (value_type b))
has_other_kind s (node.Assign op a b) = not (can_assign op (type_of a) (value_type b))
has_other_kind s (node.Postfix op a) = not (can_be_stepped (type_of a))
has_other_kind s (node.Prefix prefix.Increment a) = not (can_be_stepped (type_of a))
has_other_kind s (node.Prefix prefix.Decrement a) = not (can_be_stepped (type_of a))
has_other_kind s n = false

-- a pointer that can't move by elements
abbrev pub moves_nowhere : List Tag → CType → Bool
moves_nowhere tags t = is_pointer t && not (has_size tags (target t))

abbrev pub differ_in_targets : CType → CType → Bool
differ_in_targets t u = (is_pointer t && is_pointer u) && not (alike (target t) (target u))

abbrev pub cannot_move : List Tag → BinaryOperator → CType → CType → Bool
cannot_move tags binary.Add t u = moves_nowhere tags t || moves_nowhere tags u
cannot_move tags binary.Subtract t u = moves_nowhere tags t || (moves_nowhere tags u || differ_in_targets t u)
cannot_move tags op t u = false

abbrev pub assigns_no_move : List Tag → AssignOperator → CType → Bool
assigns_no_move tags assign.Add t = moves_nowhere tags t
assigns_no_move tags assign.Subtract t = moves_nowhere tags t
assigns_no_move tags op t = false

-- 41: pointer arithmetic on an incomplete or function type, or a difference of incompatible pointers
abbrev pub has_no_elements : State → ExprNode → Bool
has_no_elements s (node.Binary op a b) = cannot_move s.tags op (value_type a) (value_type b)
has_no_elements s (node.Assign op a b) = assigns_no_move s.tags op (type_of a)
has_no_elements s (node.Postfix op a) = moves_nowhere s.tags (type_of a)
has_no_elements s (node.Prefix prefix.Increment a) = moves_nowhere s.tags (type_of a)
has_no_elements s (node.Prefix prefix.Decrement a) = moves_nowhere s.tags (type_of a)
has_no_elements s n = false

-- one points to void, and the other to no function
abbrev pub is_void_beside : CType → CType → Bool
is_void_beside t u = is_void t && not (is_function u)

abbrev pub targets_fit : CType → CType → Bool
targets_fit t u = alike t u || (is_void_beside t u || is_void_beside u t)

-- a pointer beside one that fits, or beside a null pointer constant
abbrev pub pointers_fit : CoreTree → CoreTree → Bool
pointers_fit v w =
    (is_pointer (type_of v) && is_null w)
    || ((is_null v && is_pointer (type_of w))
    || ((is_pointer (type_of v) && is_pointer (type_of w)) && targets_fit (target (type_of v)) (target (type_of w))))

abbrev pub can_equal : CoreTree → CoreTree → Bool
can_equal v w = are_integers (type_of v) (type_of w) || pointers_fit v w

-- compatible types that are no functions, both complete or both incomplete
abbrev pub are_ordered : List Tag → CType → CType → Bool
are_ordered tags t u = alike t u && (not (is_function t) && same_flag (has_size tags t) (has_size tags u))

abbrev pub have_order : List Tag → CType → CType → Bool
have_order tags t u = (is_pointer t && is_pointer u) && are_ordered tags (target t) (target u)

abbrev pub can_order : List Tag → CoreTree → CoreTree → Bool
can_order tags v w = are_integers (type_of v) (type_of w) || have_order tags (type_of v) (type_of w)

abbrev pub can_compare : List Tag → BinaryOperator → CoreTree → CoreTree → Bool
can_compare tags binary.Equal v w = can_equal v w
can_compare tags binary.NotEqual v w = can_equal v w
can_compare tags binary.Less v w = can_order tags v w
can_compare tags binary.Greater v w = can_order tags v w
can_compare tags binary.LessEqual v w = can_order tags v w
can_compare tags binary.GreaterEqual v w = can_order tags v w
can_compare tags op v w = true

-- 42: a comparison's operands don't fit
abbrev pub compares_unfit : State → ExprNode → Bool
compares_unfit s (node.Binary op a b) = not (can_compare s.tags op (value a) (value b))
compares_unfit s n = false

abbrev pub can_test : BinaryOperator → CType → CType → Bool
can_test binary.Or t u = is_scalar t && is_scalar u
can_test binary.And t u = is_scalar t && is_scalar u
can_test op t u = true

-- 43: `&&`, `||` or the test of `?:` has no scalar
abbrev pub tests_no_scalar : State → ExprNode → Bool
tests_no_scalar s (node.Binary op a b) = not (can_test op (value_type a) (value_type b))
tests_no_scalar s (node.Conditional a b c) = not (is_scalar (value_type a))
tests_no_scalar s n = false

-- both arithmetic, both compatible structures, both void, or pointers that fit
abbrev pub can_choose : CoreTree → CoreTree → Bool
can_choose v w =
    are_integers (type_of v) (type_of w)
    || ((is_record (type_of v) && alike (type_of v) (type_of w))
    || ((is_void (type_of v) && is_void (type_of w)) || pointers_fit v w))

-- 44: the second and third operands of `?:` don't fit
abbrev pub chooses_unfit : State → ExprNode → Bool
chooses_unfit s (node.Conditional a b c) = not (can_choose (value b) (value c))
chooses_unfit s n = false

-- 45: an assignment's right side isn't assignable
abbrev pub assigns_unfit : State → ExprNode → Bool
assigns_unfit s (node.Assign assign.Plain a b) = not (is_assignable (type_of a) (value b))
assigns_unfit s n = false

abbrev pub is_last_open : List Tag → CoreTrees → Bool
is_last_open tags NoCore = false
is_last_open tags (Cores v NoCore) = is_open_record tags (type_of v)
is_last_open tags (Cores v vs) = is_last_open tags vs

-- 46: a void or incomplete value is used: here one that is handed on
abbrev pub uses_no_value : State → ExprNode → Bool
uses_no_value s (node.Conditional a b c) = is_open_record s.tags (value_type b) || is_open_record s.tags (value_type c)
uses_no_value s (node.Comma parts) = is_last_open s.tags (values parts)
uses_no_value s n = false
