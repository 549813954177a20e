-- Examples beside the constraints on names, calls, places and operators with one operand: the smallest construct that breaks
-- each, and the nearest that doesn't.
use Rattle.std.specs.Prelude.{◌≡◌, refl, codes, true, false, Some, None}
use Rattle.c_ast.specs.declared.operator.AssignOperator.TheVariants as assign
use Rattle.c_ast.specs.declared.operator.MemberOperator.TheVariants as member
use Rattle.c_ast.specs.declared.operator.PostfixOperator.TheVariants as postfix
use Rattle.c_ast.specs.declared.operator.PrefixOperator.TheVariants as prefix
use Rattle.c_types.specs.CType.{Void, Char, Array, Open, basic}
use Rattle.c_meaning.specs.CoreTrees.{none, one, two}
use Rattle.c_meaning.specs.Types.{pointer_to}
use Rattle.c_meaning.specs.Nodes as node
use Rattle.c_meaning.specs.Constants.{fold}
use Rattle.c_meaning.specs.ExprConstraints.{redeclares_otherwise, is_undeclared, calls_no_function, has_other_number, passes_unfit, is_no_subscript, selects_nothing, changes_nothing, has_no_address, is_no_pointer, has_no_operand, has_no_size, is_bad_cast}
use Rattle.c_meaning.specs.Samples.{int, const, function, struct_s, union_u, struct_open, outside, sample, constant, x, r, f, g, local, register, c, byte, p, to_const, to_void, a, s, fixed, to_s, to_open, pointed, select, cast, giving, called, taking, taking_more, taking_none, nothing}

-- 6: a call of an undeclared name, which an inner block has declared otherwise

call_of_a_number : redeclares_otherwise sample (node.NewFunction (codes "number")) ≡ true
call_of_a_number = refl

call_beside_a_char_parameter : redeclares_otherwise sample (node.NewFunction (codes "narrow")) ≡ true
call_beside_a_char_parameter = refl

call_beside_an_int_parameter : redeclares_otherwise sample (node.NewFunction (codes "before")) ≡ false
call_beside_an_int_parameter = refl

call_of_a_new_name : redeclares_otherwise sample (node.NewFunction (codes "y")) ≡ false
call_of_a_new_name = refl

-- 28: a name isn't declared and isn't called

undeclared_name : is_undeclared sample (node.Name (codes "y")) ≡ true
undeclared_name = refl

name_of_an_ended_block : is_undeclared sample (node.Name (codes "before")) ≡ true
name_of_an_ended_block = refl

tag_as_a_name : is_undeclared sample (node.Name (codes "s")) ≡ true
tag_as_a_name = refl

declared_name : is_undeclared sample (node.Name (codes "x")) ≡ false
declared_name = refl

name_of_an_outer_scope : is_undeclared sample (node.Name (codes "f")) ≡ false
name_of_an_outer_scope = refl

name_of_an_inner_scope : is_undeclared outside (node.Name (codes "x")) ≡ true
name_of_an_inner_scope = refl

enumerator_as_a_name : is_undeclared sample (node.Name (codes "first")) ≡ false
enumerator_as_a_name = refl

-- 29: what is called isn't a function or pointer to one, or its result is an incomplete structure or union

call_of_an_int : calls_no_function sample (node.Call x none) ≡ true
call_of_an_int = refl

call_of_a_pointer_to_int : calls_no_function sample (node.Call p none) ≡ true
call_of_a_pointer_to_int = refl

call_for_an_open_structure : calls_no_function sample (node.Call (giving struct_open) none) ≡ true
call_for_an_open_structure = refl

call_for_a_structure : calls_no_function sample (node.Call (giving struct_s) none) ≡ false
call_for_a_structure = refl

call_of_a_function : calls_no_function sample (node.Call f (one x)) ≡ false
call_of_a_function = refl

call_of_a_pointer_to_a_function : calls_no_function sample (node.Call (giving int) none) ≡ false
call_of_a_pointer_to_a_function = refl

call_of_a_pointed_function : calls_no_function sample (node.Call (pointed f) (one x)) ≡ false
call_of_a_pointed_function = refl

call_for_void : calls_no_function sample (node.Call (giving (basic Void)) none) ≡ false
call_for_void = refl

-- 30: the number of arguments differs from the prototype's

too_few_arguments : has_other_number sample (node.Call f none) ≡ true
too_few_arguments = refl

too_many_arguments : has_other_number sample (node.Call f (two x x)) ≡ true
too_many_arguments = refl

one_argument : has_other_number sample (node.Call f (one x)) ≡ false
one_argument = refl

arguments_of_an_open_function : has_other_number sample (node.Call g (two x x)) ≡ false
arguments_of_an_open_function = refl

arguments_behind_the_parameters : has_other_number sample (node.Call taking_more (two x x)) ≡ false
arguments_behind_the_parameters = refl

too_few_arguments_before_others : has_other_number sample (node.Call taking_more none) ≡ true
too_few_arguments_before_others = refl

argument_where_there_is_no_parameter : has_other_number sample (node.Call taking_none (one x)) ≡ true
argument_where_there_is_no_parameter = refl

-- 31: an argument isn't assignable to its parameter, or is void or incomplete

pointer_to_an_int_parameter : passes_unfit sample (node.Call f (one p)) ≡ true
pointer_to_an_int_parameter = refl

char_to_an_int_parameter : passes_unfit sample (node.Call f (one byte)) ≡ false
char_to_an_int_parameter = refl

const_to_an_int_parameter : passes_unfit sample (node.Call f (one c)) ≡ false
const_to_an_int_parameter = refl

int_to_a_pointer_parameter : passes_unfit sample (node.Call (taking (pointer_to int)) (one x)) ≡ true
unfolding fold
int_to_a_pointer_parameter = refl

zero_to_a_pointer_parameter : passes_unfit sample (node.Call (taking (pointer_to int)) (one (constant 0))) ≡ false
unfolding fold
zero_to_a_pointer_parameter = refl

array_to_a_pointer_parameter : passes_unfit sample (node.Call (taking (pointer_to int)) (one a)) ≡ false
unfolding fold
array_to_a_pointer_parameter = refl

argument_loses_const : passes_unfit sample (node.Call (taking (pointer_to int)) (one to_const)) ≡ true
unfolding fold
argument_loses_const = refl

argument_gains_const : passes_unfit sample (node.Call (taking (pointer_to (const int))) (one p)) ≡ false
argument_gains_const = refl

function_to_a_void_pointer_parameter : passes_unfit sample (node.Call (taking (pointer_to (basic Void))) (one f)) ≡ false
function_to_a_void_pointer_parameter = refl

structure_to_its_parameter : passes_unfit sample (node.Call (taking struct_s) (one s)) ≡ false
structure_to_its_parameter = refl

structure_to_another_parameter : passes_unfit sample (node.Call (taking struct_s) (one fixed)) ≡ true
structure_to_another_parameter = refl

void_argument : passes_unfit sample (node.Call g (one nothing)) ≡ true
void_argument = refl

open_structure_as_an_argument : passes_unfit sample (node.Call g (one (pointed to_open))) ≡ true
open_structure_as_an_argument = refl

structure_as_an_argument : passes_unfit sample (node.Call g (one s)) ≡ false
structure_as_an_argument = refl

array_of_a_call_as_an_argument : passes_unfit sample (node.Call g (one (select (called struct_s) (codes "list")))) ≡ true
array_of_a_call_as_an_argument = refl

array_as_an_argument : passes_unfit sample (node.Call g (one (select s (codes "list")))) ≡ false
array_as_an_argument = refl

void_argument_behind_the_parameters : passes_unfit sample (node.Call taking_more (two x nothing)) ≡ true
void_argument_behind_the_parameters = refl

pointer_behind_the_parameters : passes_unfit sample (node.Call taking_more (two x p)) ≡ false
pointer_behind_the_parameters = refl

-- 32: a subscript isn't a pointer to an object and an integer

subscript_of_an_int : is_no_subscript sample (node.Index x x) ≡ true
subscript_of_an_int = refl

subscript_by_a_pointer : is_no_subscript sample (node.Index p p) ≡ true
subscript_by_a_pointer = refl

subscript_of_a_void_pointer : is_no_subscript sample (node.Index to_void x) ≡ true
subscript_of_a_void_pointer = refl

subscript_of_an_open_structure : is_no_subscript sample (node.Index to_open x) ≡ true
subscript_of_an_open_structure = refl

subscript_of_a_function : is_no_subscript sample (node.Index f x) ≡ true
subscript_of_a_function = refl

subscript_of_an_array_of_a_call : is_no_subscript sample (node.Index (select (called struct_s) (codes "list")) x) ≡ true
subscript_of_an_array_of_a_call = refl

subscript_of_an_array : is_no_subscript sample (node.Index a (constant 1)) ≡ false
subscript_of_an_array = refl

subscript_of_a_pointer : is_no_subscript sample (node.Index p byte) ≡ false
subscript_of_a_pointer = refl

subscript_turned_round : is_no_subscript sample (node.Index (constant 1) a) ≡ false
subscript_turned_round = refl

-- 33: `.` or `->` has no structure or union before it, or no such member

member_of_an_int : selects_nothing sample (node.Member member.Dot x (codes "m")) ≡ true
member_of_an_int = refl

member_that_is_not_there : selects_nothing sample (node.Member member.Dot s (codes "n")) ≡ true
member_that_is_not_there = refl

member_of_a_pointer : selects_nothing sample (node.Member member.Dot to_s (codes "m")) ≡ true
member_of_a_pointer = refl

member_of_an_open_structure : selects_nothing sample (node.Member member.Dot (pointed to_open) (codes "m")) ≡ true
member_of_an_open_structure = refl

member_of_a_structure : selects_nothing sample (node.Member member.Dot s (codes "m")) ≡ false
member_of_a_structure = refl

member_of_a_const_union : selects_nothing sample (node.Member member.Dot (local (const union_u)) (codes "m")) ≡ false
member_of_a_const_union = refl

member_of_a_call : selects_nothing sample (node.Member member.Dot (called struct_s) (codes "m")) ≡ false
member_of_a_call = refl

arrow_from_a_structure : selects_nothing sample (node.Member member.Arrow s (codes "m")) ≡ true
arrow_from_a_structure = refl

arrow_from_a_pointer_to_int : selects_nothing sample (node.Member member.Arrow p (codes "m")) ≡ true
arrow_from_a_pointer_to_int = refl

arrow_to_a_member_that_is_not_there : selects_nothing sample (node.Member member.Arrow to_s (codes "n")) ≡ true
arrow_to_a_member_that_is_not_there = refl

arrow_into_an_open_structure : selects_nothing sample (node.Member member.Arrow to_open (codes "m")) ≡ true
arrow_into_an_open_structure = refl

arrow_from_a_pointer : selects_nothing sample (node.Member member.Arrow to_s (codes "m")) ≡ false
arrow_from_a_pointer = refl

arrow_from_an_array : selects_nothing sample (node.Member member.Arrow (local (Array struct_s (Some 2))) (codes "m")) ≡ false
arrow_from_an_array = refl

-- 34: `=`, a compound assignment, `++` or `--` has no modifiable lvalue

assigned_constant : changes_nothing sample (node.Assign assign.Plain (constant 1) x) ≡ true
assigned_constant = refl

assigned_const : changes_nothing sample (node.Assign assign.Plain c x) ≡ true
assigned_const = refl

assigned_array : changes_nothing sample (node.Assign assign.Plain a p) ≡ true
assigned_array = refl

assigned_function : changes_nothing sample (node.Assign assign.Plain f f) ≡ true
assigned_function = refl

assigned_cast : changes_nothing sample (node.Assign assign.Plain (cast int x) x) ≡ true
assigned_cast = refl

assigned_structure_with_a_const_member : changes_nothing sample (node.Assign assign.Plain fixed fixed) ≡ true
assigned_structure_with_a_const_member = refl

assigned_open_structure : changes_nothing sample (node.Assign assign.Plain (pointed to_open) (pointed to_open)) ≡ true
assigned_open_structure = refl

assigned_member_of_a_call : changes_nothing sample (node.Assign assign.Plain (select (called struct_s) (codes "m")) x) ≡ true
assigned_member_of_a_call = refl

assigned_member_of_a_const_structure : changes_nothing sample (node.Assign assign.Plain (select (local (const struct_s)) (codes "m")) x) ≡ true
assigned_member_of_a_const_structure = refl

assigned_through_a_pointer_to_const : changes_nothing sample (node.Assign assign.Plain (pointed to_const) x) ≡ true
assigned_through_a_pointer_to_const = refl

assigned_object : changes_nothing sample (node.Assign assign.Plain x c) ≡ false
assigned_object = refl

assigned_structure : changes_nothing sample (node.Assign assign.Plain s s) ≡ false
assigned_structure = refl

assigned_member : changes_nothing sample (node.Assign assign.Plain (select s (codes "m")) x) ≡ false
assigned_member = refl

assigned_bit_field : changes_nothing sample (node.Assign assign.Plain (select s (codes "b")) x) ≡ false
assigned_bit_field = refl

assigned_pointer_to_const : changes_nothing sample (node.Assign assign.Plain to_const p) ≡ false
assigned_pointer_to_const = refl

added_to_a_const : changes_nothing sample (node.Assign assign.Add c x) ≡ true
added_to_a_const = refl

added_to_a_register : changes_nothing sample (node.Assign assign.Add r x) ≡ false
added_to_a_register = refl

increment_of_a_const : changes_nothing sample (node.Prefix prefix.Increment c) ≡ true
increment_of_a_const = refl

decrement_of_a_const : changes_nothing sample (node.Prefix prefix.Decrement c) ≡ true
decrement_of_a_const = refl

decrement_of_an_object : changes_nothing sample (node.Prefix prefix.Decrement x) ≡ false
decrement_of_an_object = refl

increment_behind_an_array : changes_nothing sample (node.Postfix postfix.Increment a) ≡ true
increment_behind_an_array = refl

increment_behind_an_object : changes_nothing sample (node.Postfix postfix.Increment x) ≡ false
increment_behind_an_object = refl

-- 35: `&` of neither function nor lvalue, or of a bit-field or register object

address_of_a_constant : has_no_address sample (node.Prefix prefix.Address (constant 1)) ≡ true
address_of_a_constant = refl

address_of_a_bit_field : has_no_address sample (node.Prefix prefix.Address (select s (codes "b"))) ≡ true
address_of_a_bit_field = refl

address_of_a_register : has_no_address sample (node.Prefix prefix.Address r) ≡ true
address_of_a_register = refl

address_of_a_member_of_a_register : has_no_address sample (node.Prefix prefix.Address (select (register struct_s) (codes "m"))) ≡ true
address_of_a_member_of_a_register = refl

address_of_a_member_of_a_call : has_no_address sample (node.Prefix prefix.Address (select (called struct_s) (codes "m"))) ≡ true
address_of_a_member_of_a_call = refl

address_of_void : has_no_address sample (node.Prefix prefix.Address (pointed to_void)) ≡ true
address_of_void = refl

address_of_an_object : has_no_address sample (node.Prefix prefix.Address x) ≡ false
address_of_an_object = refl

address_of_a_function : has_no_address sample (node.Prefix prefix.Address f) ≡ false
address_of_a_function = refl

address_of_an_array : has_no_address sample (node.Prefix prefix.Address a) ≡ false
address_of_an_array = refl

address_of_a_member : has_no_address sample (node.Prefix prefix.Address (select s (codes "m"))) ≡ false
address_of_a_member = refl

address_of_an_open_structure : has_no_address sample (node.Prefix prefix.Address (pointed to_open)) ≡ false
address_of_an_open_structure = refl

-- 36: `*` of no pointer

star_of_an_int : is_no_pointer sample (node.Prefix prefix.Indirect x) ≡ true
star_of_an_int = refl

star_of_a_structure : is_no_pointer sample (node.Prefix prefix.Indirect s) ≡ true
star_of_a_structure = refl

star_of_nothing : is_no_pointer sample (node.Prefix prefix.Indirect nothing) ≡ true
star_of_nothing = refl

star_of_a_pointer : is_no_pointer sample (node.Prefix prefix.Indirect p) ≡ false
star_of_a_pointer = refl

star_of_a_void_pointer : is_no_pointer sample (node.Prefix prefix.Indirect to_void) ≡ false
star_of_a_void_pointer = refl

star_of_a_function : is_no_pointer sample (node.Prefix prefix.Indirect f) ≡ false
star_of_a_function = refl

star_of_an_array : is_no_pointer sample (node.Prefix prefix.Indirect a) ≡ false
star_of_an_array = refl

-- 37: unary `+ -` of no arithmetic, `~` of no integer, `!` of no scalar

plus_of_a_pointer : has_no_operand sample (node.Prefix prefix.Plus p) ≡ true
plus_of_a_pointer = refl

plus_of_an_int : has_no_operand sample (node.Prefix prefix.Plus x) ≡ false
plus_of_an_int = refl

minus_of_a_pointer : has_no_operand sample (node.Prefix prefix.Minus p) ≡ true
minus_of_a_pointer = refl

minus_of_a_char : has_no_operand sample (node.Prefix prefix.Minus byte) ≡ false
minus_of_a_char = refl

complement_of_a_pointer : has_no_operand sample (node.Prefix prefix.Complement p) ≡ true
complement_of_a_pointer = refl

complement_of_an_int : has_no_operand sample (node.Prefix prefix.Complement x) ≡ false
complement_of_an_int = refl

not_of_a_structure : has_no_operand sample (node.Prefix prefix.Not s) ≡ true
not_of_a_structure = refl

not_of_nothing : has_no_operand sample (node.Prefix prefix.Not nothing) ≡ true
not_of_nothing = refl

not_of_a_pointer : has_no_operand sample (node.Prefix prefix.Not p) ≡ false
not_of_a_pointer = refl

not_of_a_function : has_no_operand sample (node.Prefix prefix.Not f) ≡ false
not_of_a_function = refl

-- 38: `sizeof` a function, incomplete type or bit-field

size_of_a_function : has_no_size sample (node.SizeofExpr f) ≡ true
size_of_a_function = refl

size_of_a_bit_field : has_no_size sample (node.SizeofExpr (select s (codes "b"))) ≡ true
size_of_a_bit_field = refl

size_of_an_open_structure : has_no_size sample (node.SizeofExpr (pointed to_open)) ≡ true
size_of_an_open_structure = refl

size_of_void : has_no_size sample (node.SizeofType (basic Void)) ≡ true
size_of_void = refl

size_of_a_function_type : has_no_size sample (node.SizeofType (function int Open)) ≡ true
size_of_a_function_type = refl

size_of_an_open_array : has_no_size sample (node.SizeofType (Array int None)) ≡ true
size_of_an_open_array = refl

size_of_an_array : has_no_size sample (node.SizeofExpr a) ≡ false
size_of_an_array = refl

size_of_a_member : has_no_size sample (node.SizeofExpr (select s (codes "m"))) ≡ false
size_of_a_member = refl

size_of_a_structure_type : has_no_size sample (node.SizeofType struct_s) ≡ false
size_of_a_structure_type = refl

size_of_a_pointer_to_an_open_structure : has_no_size sample (node.SizeofExpr to_open) ≡ false
size_of_a_pointer_to_an_open_structure = refl

-- 39: a cast to neither void nor scalar, or of no scalar to a scalar

cast_to_a_structure : is_bad_cast sample (node.Cast struct_s s) ≡ true
cast_to_a_structure = refl

cast_to_an_array : is_bad_cast sample (node.Cast (Array int (Some 3)) a) ≡ true
cast_to_an_array = refl

cast_to_a_function : is_bad_cast sample (node.Cast (function int Open) f) ≡ true
cast_to_a_function = refl

cast_of_a_structure : is_bad_cast sample (node.Cast int s) ≡ true
cast_of_a_structure = refl

cast_of_nothing : is_bad_cast sample (node.Cast int nothing) ≡ true
cast_of_nothing = refl

cast_of_an_int_to_a_pointer : is_bad_cast sample (node.Cast (pointer_to int) x) ≡ false
cast_of_an_int_to_a_pointer = refl

cast_of_a_pointer_to_char : is_bad_cast sample (node.Cast (const (basic Char)) p) ≡ false
cast_of_a_pointer_to_char = refl

cast_of_a_structure_to_void : is_bad_cast sample (node.Cast (basic Void) s) ≡ false
cast_of_a_structure_to_void = refl

cast_of_nothing_to_void : is_bad_cast sample (node.Cast (basic Void) nothing) ≡ false
cast_of_nothing_to_void = refl
