-- Examples beside the constraints on operators with two and three operands: the smallest construct that breaks each, and the
-- nearest that doesn't.
use Rattle.std.specs.Prelude.{◌≡◌, refl, codes, true, false, Some, None}
use Rattle.c_ast.specs.declared.operator.AssignOperator.TheVariants as assign
use Rattle.c_ast.specs.declared.operator.BinaryOperator.TheVariants as binary
use Rattle.c_ast.specs.declared.operator.PostfixOperator.TheVariants as postfix
use Rattle.c_ast.specs.declared.operator.PrefixOperator.TheVariants as prefix
use Rattle.c_types.specs.CType.{Void, Char, Array, basic, qualify}
use Rattle.c_meaning.specs.CoreTrees.{two}
use Rattle.c_meaning.specs.Types.{pointer_to}
use Rattle.c_meaning.specs.Nodes as node
use Rattle.c_meaning.specs.Constants.{fold}
use Rattle.c_meaning.specs.ExprConstraints.{has_other_kind, has_no_elements, compares_unfit, tests_no_scalar, chooses_unfit, assigns_unfit, uses_no_value}
use Rattle.c_meaning.specs.Samples.{int, const, struct_s, enum_e, sample, constant, x, f, g, local, byte, p, to_char, to_const, to_void, a, s, fixed, to_s, to_open, pointed, select, cast, called, taking, nothing, null}

-- 40: a binary arithmetic, bit or shift operator has an operand of another kind

pointer_times_int : has_other_kind sample (node.Binary binary.Multiply p x) ≡ true
pointer_times_int = refl

int_times_char : has_other_kind sample (node.Binary binary.Multiply x byte) ≡ false
int_times_char = refl

structure_divided : has_other_kind sample (node.Binary binary.Divide s x) ≡ true
structure_divided = refl

remainder_by_nothing : has_other_kind sample (node.Binary binary.Remainder x nothing) ≡ true
remainder_by_nothing = refl

pointer_or_int : has_other_kind sample (node.Binary binary.BitOr p x) ≡ true
pointer_or_int = refl

bit_field_or_int : has_other_kind sample (node.Binary binary.BitOr (select s (codes "b")) x) ≡ false
bit_field_or_int = refl

shift_by_a_pointer : has_other_kind sample (node.Binary binary.ShiftLeft x p) ≡ true
shift_by_a_pointer = refl

shift_by_a_char : has_other_kind sample (node.Binary binary.ShiftLeft x byte) ≡ false
shift_by_a_char = refl

pointer_plus_pointer : has_other_kind sample (node.Binary binary.Add p p) ≡ true
pointer_plus_pointer = refl

pointer_plus_int : has_other_kind sample (node.Binary binary.Add p x) ≡ false
pointer_plus_int = refl

int_plus_array : has_other_kind sample (node.Binary binary.Add x a) ≡ false
int_plus_array = refl

int_less_pointer : has_other_kind sample (node.Binary binary.Subtract x p) ≡ true
int_less_pointer = refl

pointer_less_int : has_other_kind sample (node.Binary binary.Subtract p x) ≡ false
pointer_less_int = refl

pointer_less_pointer : has_other_kind sample (node.Binary binary.Subtract p p) ≡ false
pointer_less_pointer = refl

pointer_times_assigned : has_other_kind sample (node.Assign assign.Multiply p x) ≡ true
pointer_times_assigned = refl

int_plus_assigned_pointer : has_other_kind sample (node.Assign assign.Add x p) ≡ true
int_plus_assigned_pointer = refl

pointer_less_assigned_pointer : has_other_kind sample (node.Assign assign.Subtract p p) ≡ true
pointer_less_assigned_pointer = refl

pointer_plus_assigned_int : has_other_kind sample (node.Assign assign.Add p x) ≡ false
pointer_plus_assigned_int = refl

structure_assigned : has_other_kind sample (node.Assign assign.Plain s s) ≡ false
structure_assigned = refl

increment_of_a_structure : has_other_kind sample (node.Prefix prefix.Increment s) ≡ true
increment_of_a_structure = refl

decrement_of_a_structure : has_other_kind sample (node.Prefix prefix.Decrement s) ≡ true
decrement_of_a_structure = refl

decrement_behind_a_structure : has_other_kind sample (node.Postfix postfix.Decrement s) ≡ true
decrement_behind_a_structure = refl

decrement_behind_a_pointer : has_other_kind sample (node.Postfix postfix.Decrement p) ≡ false
decrement_behind_a_pointer = refl

-- 41: pointer arithmetic on an incomplete or function type, or a difference of incompatible pointers

void_pointer_plus_int : has_no_elements sample (node.Binary binary.Add to_void x) ≡ true
void_pointer_plus_int = refl

int_plus_open_structures : has_no_elements sample (node.Binary binary.Add x to_open) ≡ true
int_plus_open_structures = refl

function_plus_int : has_no_elements sample (node.Binary binary.Add f x) ≡ true
function_plus_int = refl

structures_plus_int : has_no_elements sample (node.Binary binary.Add to_s x) ≡ false
structures_plus_int = refl

void_pointer_less_int : has_no_elements sample (node.Binary binary.Subtract to_void x) ≡ true
void_pointer_less_int = refl

void_pointers_apart : has_no_elements sample (node.Binary binary.Subtract to_void to_void) ≡ true
void_pointers_apart = refl

pointers_to_int_and_char_apart : has_no_elements sample (node.Binary binary.Subtract p to_char) ≡ true
pointers_to_int_and_char_apart = refl

pointers_to_int_and_const_int_apart : has_no_elements sample (node.Binary binary.Subtract p to_const) ≡ false
pointers_to_int_and_const_int_apart = refl

void_pointer_plus_assigned : has_no_elements sample (node.Assign assign.Add to_void x) ≡ true
void_pointer_plus_assigned = refl

void_pointer_less_assigned : has_no_elements sample (node.Assign assign.Subtract to_void x) ≡ true
void_pointer_less_assigned = refl

pointer_plus_assigned : has_no_elements sample (node.Assign assign.Add p x) ≡ false
pointer_plus_assigned = refl

void_pointer_incremented : has_no_elements sample (node.Prefix prefix.Increment to_void) ≡ true
void_pointer_incremented = refl

void_pointer_decremented : has_no_elements sample (node.Prefix prefix.Decrement to_void) ≡ true
void_pointer_decremented = refl

open_structures_decremented : has_no_elements sample (node.Postfix postfix.Decrement to_open) ≡ true
open_structures_decremented = refl

pointer_incremented : has_no_elements sample (node.Prefix prefix.Increment p) ≡ false
pointer_incremented = refl

-- 42: a comparison's operands don't fit

pointer_equals_int : compares_unfit sample (node.Binary binary.Equal p x) ≡ true
unfolding fold
pointer_equals_int = refl

pointer_equals_one : compares_unfit sample (node.Binary binary.Equal p (constant 1)) ≡ true
unfolding fold
pointer_equals_one = refl

pointer_equals_zero : compares_unfit sample (node.Binary binary.Equal p (constant 0)) ≡ false
unfolding fold
pointer_equals_zero = refl

zero_equals_pointer : compares_unfit sample (node.Binary binary.NotEqual (constant 0) p) ≡ false
unfolding fold
zero_equals_pointer = refl

pointers_to_int_and_char_equal : compares_unfit sample (node.Binary binary.Equal p to_char) ≡ true
unfolding fold
pointers_to_int_and_char_equal = refl

pointers_to_int_and_const_int_equal : compares_unfit sample (node.Binary binary.Equal p to_const) ≡ false
unfolding fold
pointers_to_int_and_const_int_equal = refl

pointers_to_int_and_void_equal : compares_unfit sample (node.Binary binary.Equal p to_void) ≡ false
unfolding fold
pointers_to_int_and_void_equal = refl

pointers_to_const_and_void_equal : compares_unfit sample (node.Binary binary.Equal to_void to_const) ≡ false
unfolding fold
pointers_to_const_and_void_equal = refl

functions_equal : compares_unfit sample (node.Binary binary.Equal f f) ≡ false
unfolding fold
functions_equal = refl

functions_with_other_parameters_equal : compares_unfit sample (node.Binary binary.Equal f (taking (basic Char))) ≡ true
unfolding fold
functions_with_other_parameters_equal = refl

function_equals_void_pointer : compares_unfit sample (node.Binary binary.Equal f to_void) ≡ true
unfolding fold
function_equals_void_pointer = refl

function_equals_null : compares_unfit sample (node.Binary binary.Equal f null) ≡ false
unfolding fold
function_equals_null = refl

structures_equal : compares_unfit sample (node.Binary binary.Equal s s) ≡ true
unfolding fold
structures_equal = refl

int_equals_char : compares_unfit sample (node.Binary binary.Equal x byte) ≡ false
unfolding fold
int_equals_char = refl

nothing_equals_int : compares_unfit sample (node.Binary binary.Equal nothing x) ≡ true
unfolding fold
nothing_equals_int = refl

pointer_below_zero : compares_unfit sample (node.Binary binary.Less p (constant 0)) ≡ true
pointer_below_zero = refl

pointers_to_int_and_void_ordered : compares_unfit sample (node.Binary binary.Less p to_void) ≡ true
pointers_to_int_and_void_ordered = refl

functions_ordered : compares_unfit sample (node.Binary binary.GreaterEqual f f) ≡ true
functions_ordered = refl

pointers_to_int_and_char_ordered : compares_unfit sample (node.Binary binary.Greater p to_char) ≡ true
pointers_to_int_and_char_ordered = refl

pointers_to_int_and_const_int_ordered : compares_unfit sample (node.Binary binary.LessEqual p to_const) ≡ false
pointers_to_int_and_const_int_ordered = refl

void_pointers_ordered : compares_unfit sample (node.Binary binary.Less to_void to_void) ≡ false
void_pointers_ordered = refl

pointers_to_open_structures_ordered : compares_unfit sample (node.Binary binary.Less to_open to_open) ≡ false
pointers_to_open_structures_ordered = refl

pointers_to_whole_and_open_arrays_ordered : compares_unfit sample (node.Binary binary.Less (called (pointer_to (Array int (Some 3)))) (called (pointer_to (Array int None)))) ≡ true
pointers_to_whole_and_open_arrays_ordered = refl

pointers_to_open_arrays_ordered : compares_unfit sample (node.Binary binary.Less (called (pointer_to (Array int None))) (called (pointer_to (Array int None)))) ≡ false
pointers_to_open_arrays_ordered = refl

int_below_char : compares_unfit sample (node.Binary binary.Less x byte) ≡ false
int_below_char = refl

pointers_added : compares_unfit sample (node.Binary binary.Add p p) ≡ false
pointers_added = refl

-- 43: `&&`, `||` or the test of `?:` has no scalar

structure_and_int : tests_no_scalar sample (node.Binary binary.And s x) ≡ true
structure_and_int = refl

int_and_pointer : tests_no_scalar sample (node.Binary binary.And x p) ≡ false
int_and_pointer = refl

int_or_nothing : tests_no_scalar sample (node.Binary binary.Or x nothing) ≡ true
int_or_nothing = refl

function_or_array : tests_no_scalar sample (node.Binary binary.Or f a) ≡ false
function_or_array = refl

structure_as_the_test : tests_no_scalar sample (node.Conditional s x x) ≡ true
structure_as_the_test = refl

nothing_as_the_test : tests_no_scalar sample (node.Conditional nothing x x) ≡ true
nothing_as_the_test = refl

pointer_as_the_test : tests_no_scalar sample (node.Conditional p x x) ≡ false
pointer_as_the_test = refl

-- 44: the second and third operands of `?:` don't fit

int_or_else_char : chooses_unfit sample (node.Conditional x x byte) ≡ false
unfolding fold
int_or_else_char = refl

int_or_else_pointer : chooses_unfit sample (node.Conditional x x p) ≡ true
unfolding fold
int_or_else_pointer = refl

one_or_else_pointer : chooses_unfit sample (node.Conditional x (constant 1) p) ≡ true
unfolding fold
one_or_else_pointer = refl

zero_or_else_pointer : chooses_unfit sample (node.Conditional x (constant 0) p) ≡ false
unfolding fold
zero_or_else_pointer = refl

pointer_or_else_zero : chooses_unfit sample (node.Conditional x p (constant 0)) ≡ false
unfolding fold
pointer_or_else_zero = refl

pointer_or_else_null : chooses_unfit sample (node.Conditional x p null) ≡ false
unfolding fold
pointer_or_else_null = refl

pointers_to_int_or_else_char : chooses_unfit sample (node.Conditional x p to_char) ≡ true
unfolding fold
pointers_to_int_or_else_char = refl

pointers_to_int_or_else_const_int : chooses_unfit sample (node.Conditional x p to_const) ≡ false
unfolding fold
pointers_to_int_or_else_const_int = refl

pointers_to_int_or_else_void : chooses_unfit sample (node.Conditional x p to_void) ≡ false
unfolding fold
pointers_to_int_or_else_void = refl

pointers_to_void_or_else_const_int : chooses_unfit sample (node.Conditional x to_void to_const) ≡ false
unfolding fold
pointers_to_void_or_else_const_int = refl

function_or_else_void_pointer : chooses_unfit sample (node.Conditional x f to_void) ≡ true
unfolding fold
function_or_else_void_pointer = refl

function_or_else_null : chooses_unfit sample (node.Conditional x f null) ≡ false
unfolding fold
function_or_else_null = refl

function_or_else_one_with_open_parameters : chooses_unfit sample (node.Conditional x f g) ≡ false
unfolding fold
function_or_else_one_with_open_parameters = refl

structure_or_else_the_same : chooses_unfit sample (node.Conditional x s s) ≡ false
structure_or_else_the_same = refl

structure_or_else_a_const_one : chooses_unfit sample (node.Conditional x s (local (const struct_s))) ≡ false
structure_or_else_a_const_one = refl

structure_or_else_another : chooses_unfit sample (node.Conditional x s fixed) ≡ true
unfolding fold
structure_or_else_another = refl

nothing_or_else_nothing : chooses_unfit sample (node.Conditional x nothing nothing) ≡ false
nothing_or_else_nothing = refl

nothing_or_else_int : chooses_unfit sample (node.Conditional x nothing x) ≡ true
unfolding fold
nothing_or_else_int = refl

array_of_a_call_or_else_pointer : chooses_unfit sample (node.Conditional x (select (called struct_s) (codes "list")) p) ≡ true
unfolding fold
array_of_a_call_or_else_pointer = refl

-- 45: an assignment's right side isn't assignable

char_to_int : assigns_unfit sample (node.Assign assign.Plain x byte) ≡ false
char_to_int = refl

enumeration_to_int : assigns_unfit sample (node.Assign assign.Plain x (local enum_e)) ≡ false
enumeration_to_int = refl

pointer_to_int_object : assigns_unfit sample (node.Assign assign.Plain x p) ≡ true
pointer_to_int_object = refl

nothing_to_int : assigns_unfit sample (node.Assign assign.Plain x nothing) ≡ true
nothing_to_int = refl

int_to_pointer : assigns_unfit sample (node.Assign assign.Plain p x) ≡ true
unfolding fold
int_to_pointer = refl

one_to_pointer : assigns_unfit sample (node.Assign assign.Plain p (constant 1)) ≡ true
unfolding fold
one_to_pointer = refl

zero_to_pointer : assigns_unfit sample (node.Assign assign.Plain p (constant 0)) ≡ false
unfolding fold
zero_to_pointer = refl

zero_that_is_computed_to_pointer : assigns_unfit sample (node.Assign assign.Plain p (cast (basic Char) (constant 256))) ≡ false
unfolding fold
zero_that_is_computed_to_pointer = refl

null_to_pointer : assigns_unfit sample (node.Assign assign.Plain p null) ≡ false
unfolding fold
null_to_pointer = refl

null_to_function_pointer : assigns_unfit sample (node.Assign assign.Plain (taking int) null) ≡ false
unfolding fold
null_to_function_pointer = refl

const_void_null_to_pointer : assigns_unfit sample (node.Assign assign.Plain p (cast (pointer_to (const (basic Void))) (constant 0))) ≡ true
unfolding fold
const_void_null_to_pointer = refl

char_null_to_pointer : assigns_unfit sample (node.Assign assign.Plain p (cast (pointer_to (basic Char)) (constant 0))) ≡ true
unfolding fold
char_null_to_pointer = refl

pointer_to_char_to_pointer_to_int : assigns_unfit sample (node.Assign assign.Plain p to_char) ≡ true
unfolding fold
pointer_to_char_to_pointer_to_int = refl

const_is_lost : assigns_unfit sample (node.Assign assign.Plain p to_const) ≡ true
unfolding fold
const_is_lost = refl

const_is_gained : assigns_unfit sample (node.Assign assign.Plain to_const p) ≡ false
const_is_gained = refl

const_is_gained_behind_two_pointers : assigns_unfit sample (node.Assign assign.Plain (local (pointer_to (pointer_to (const int)))) (local (pointer_to (pointer_to int)))) ≡ true
unfolding fold
const_is_gained_behind_two_pointers = refl

const_of_an_element_is_lost : assigns_unfit sample (node.Assign assign.Plain p (local (Array (const int) (Some 3)))) ≡ true
unfolding fold
const_of_an_element_is_lost = refl

volatile_is_lost : assigns_unfit sample (node.Assign assign.Plain to_const (local (pointer_to (qualify 2 int)))) ≡ true
unfolding fold
volatile_is_lost = refl

const_is_gained_beside_volatile : assigns_unfit sample (node.Assign assign.Plain (local (pointer_to (qualify 3 int))) (local (pointer_to (qualify 2 int)))) ≡ false
const_is_gained_beside_volatile = refl

void_pointer_to_pointer : assigns_unfit sample (node.Assign assign.Plain p to_void) ≡ false
void_pointer_to_pointer = refl

pointer_to_void_pointer : assigns_unfit sample (node.Assign assign.Plain to_void p) ≡ false
pointer_to_void_pointer = refl

const_is_lost_to_void : assigns_unfit sample (node.Assign assign.Plain to_void to_const) ≡ true
unfolding fold
const_is_lost_to_void = refl

const_is_kept_to_void : assigns_unfit sample (node.Assign assign.Plain (local (pointer_to (const (basic Void)))) to_const) ≡ false
const_is_kept_to_void = refl

function_to_its_pointer : assigns_unfit sample (node.Assign assign.Plain (taking int) f) ≡ false
function_to_its_pointer = refl

function_to_another_pointer : assigns_unfit sample (node.Assign assign.Plain (taking (basic Char)) f) ≡ true
unfolding fold
function_to_another_pointer = refl

open_function_to_a_pointer : assigns_unfit sample (node.Assign assign.Plain (taking int) g) ≡ false
open_function_to_a_pointer = refl

function_to_a_void_pointer : assigns_unfit sample (node.Assign assign.Plain to_void f) ≡ false
function_to_a_void_pointer = refl

void_pointer_to_a_function_pointer : assigns_unfit sample (node.Assign assign.Plain (taking int) to_void) ≡ false
void_pointer_to_a_function_pointer = refl

structure_to_the_same : assigns_unfit sample (node.Assign assign.Plain s s) ≡ false
structure_to_the_same = refl

const_structure_to_the_same : assigns_unfit sample (node.Assign assign.Plain s (local (const struct_s))) ≡ false
const_structure_to_the_same = refl

structure_to_another : assigns_unfit sample (node.Assign assign.Plain s fixed) ≡ true
structure_to_another = refl

int_to_a_structure : assigns_unfit sample (node.Assign assign.Plain s x) ≡ true
int_to_a_structure = refl

pointer_added_to_an_int : assigns_unfit sample (node.Assign assign.Add x p) ≡ false
pointer_added_to_an_int = refl

-- 46: a void or incomplete value is used: here one that is handed on

open_structure_or_else_another : uses_no_value sample (node.Conditional x (pointed to_open) (pointed to_open)) ≡ true
open_structure_or_else_another = refl

structure_or_else_a_whole_one : uses_no_value sample (node.Conditional x s s) ≡ false
structure_or_else_a_whole_one = refl

nothing_in_both_cases : uses_no_value sample (node.Conditional x nothing nothing) ≡ false
nothing_in_both_cases = refl

open_structure_behind_a_comma : uses_no_value sample (node.Comma (two x (pointed to_open))) ≡ true
open_structure_behind_a_comma = refl

open_structure_before_a_comma : uses_no_value sample (node.Comma (two (pointed to_open) x)) ≡ false
open_structure_before_a_comma = refl

nothing_behind_a_comma : uses_no_value sample (node.Comma (two x nothing)) ≡ false
nothing_behind_a_comma = refl
