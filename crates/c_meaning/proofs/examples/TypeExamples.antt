-- Examples beside the constraints on specifiers and declarators: the smallest construct that breaks each, and the nearest that
-- doesn't.
use Rattle.std.specs.Prelude.{◌≡◌, refl, ℤ, pos, negsuc, codes, true, false, Some, None, List, [], ◌∷◌}
use Rattle.c_ast.specs.declared.specifier.BasicType.TheVariants as word
use Rattle.c_ast.specs.declared.specifier.RecordKind.TheVariants as record_kind
use Rattle.c_ast.specs.declared.specifier.Storage.TheVariants as class
use Rattle.c_types.specs.CType.{CType, Void, Char, Unsigned, Long, UnsignedLong, Int, Array, Open, basic}
use Rattle.c_meaning.specs.Types.{pointer_to}
use Rattle.c_meaning.specs.Values.{CoreTree}
use Rattle.c_meaning.specs.Constants.{fold}
use Rattle.c_meaning.specs.Words.{meant}
use Rattle.c_meaning.specs.Nodes.{TypeNode, Step, Stored, Word, Whole, ToPointer, ToArray, ToFunction, ToNamed, ToOpen}
use Rattle.c_meaning.specs.Nodes as node
use Rattle.c_meaning.specs.TypeRows.{opened}
use Rattle.c_meaning.specs.TypeConstraints.{has_floating, forms_no_type, has_bad_class, is_declared_twice, misuses_tag, repeats_member, has_no_object, is_bad_field, is_bad_enumerator, has_bad_size, has_bad_element, has_bad_result, is_bad_void, has_name_list}
use Rattle.c_meaning.specs.Samples.{int, const, function, struct_s, struct_open, enum_e, field, outside, sample, constant, unsigned_constant, minus_one, x}

-- a declarator's node over int
abbrev over_int : List Step → TypeNode
over_int steps = node.Declarator int steps

abbrev declarator_with_size : CoreTree → TypeNode
declarator_with_size size = over_int (ToArray (Some size) ∷ [])

-- a member's node, not a bit-field and a bit-field
abbrev member_of_type : CType → TypeNode
member_of_type of = node.Field [] (Some (codes "m")) of None

abbrev bit_field : CType → CoreTree → TypeNode
bit_field of width = node.Field [] (Some (codes "m")) of (Some width)

abbrev unnamed_bit_field : CoreTree → TypeNode
unnamed_bit_field width = node.Field [] None int (Some width)

-- an enumerator's node, with a value that is written, and without one
abbrev enumerator : CoreTree → TypeNode
enumerator value = node.Enumerator (codes "y") (Some value) (pos 0)

abbrev next_enumerator : ℤ → TypeNode
next_enumerator next = node.Enumerator (codes "y") None next

-- a prototype of one int parameter, as a step
abbrev to_function : Step
to_function = ToFunction (record { name = None; of = int } ∷ []) false []

-- 1: `float` or `double` stands in a type

double_in_a_type : has_floating sample (node.Specifiers (Word word.Double ∷ [])) ≡ true
double_in_a_type = refl

long_double_in_a_type : has_floating sample (node.Specifiers (Word word.Long ∷ Word word.Double ∷ [])) ≡ true
long_double_in_a_type = refl

float_behind_a_class : has_floating sample (node.Specifiers (Stored class.Static ∷ Word word.Float ∷ [])) ≡ true
float_behind_a_class = refl

long_in_a_type : has_floating sample (node.Specifiers (Word word.Long ∷ [])) ≡ false
long_in_a_type = refl

-- 2: the type specifiers form no type of C89

char_and_short : forms_no_type sample (node.Specifiers (Word word.Char ∷ Word word.Short ∷ [])) ≡ true
char_and_short = refl

long_and_long : forms_no_type sample (node.Specifiers (Word word.Long ∷ Word word.Long ∷ [])) ≡ true
long_and_long = refl

signed_and_unsigned : forms_no_type sample (node.Specifiers (Word word.Signed ∷ Word word.Unsigned ∷ [])) ≡ true
signed_and_unsigned = refl

void_and_int : forms_no_type sample (node.Specifiers (Word word.Void ∷ Word word.Int ∷ [])) ≡ true
void_and_int = refl

structure_and_int : forms_no_type sample (node.Specifiers (Whole struct_s ∷ Word word.Int ∷ [])) ≡ true
structure_and_int = refl

two_structures : forms_no_type sample (node.Specifiers (Whole struct_s ∷ Whole struct_s ∷ [])) ≡ true
two_structures = refl

unsigned_char : forms_no_type sample (node.Specifiers (Word word.Char ∷ Word word.Unsigned ∷ [])) ≡ false
unsigned_char = refl

structure_alone : forms_no_type sample (node.Specifiers (Stored class.Static ∷ Whole struct_s ∷ [])) ≡ false
structure_alone = refl

class_alone : forms_no_type sample (node.Specifiers (Stored class.Static ∷ [])) ≡ false
class_alone = refl

words_in_another_order : meant (word.Int ∷ word.Long ∷ word.Unsigned ∷ []) ≡ Some UnsignedLong
words_in_another_order = refl

words_that_mean_long : meant (word.Int ∷ word.Signed ∷ word.Long ∷ []) ≡ Some Long
words_that_mean_long = refl

no_word : meant [] ≡ Some Int
no_word = refl

unsigned_alone : meant (word.Unsigned ∷ []) ≡ Some Unsigned
unsigned_alone = refl

words_without_a_meaning : meant (word.Int ∷ word.Char ∷ word.Unsigned ∷ []) ≡ None
words_without_a_meaning = refl

long_char : meant (word.Long ∷ word.Char ∷ []) ≡ None
long_char = refl

word_that_stands_twice : meant (word.Int ∷ word.Unsigned ∷ word.Int ∷ []) ≡ None
word_that_stands_twice = refl

-- 3: two storage classes; another than `register` on a parameter

static_and_extern : has_bad_class sample (node.Specifiers (Stored class.Static ∷ Word word.Int ∷ Stored class.Extern ∷ [])) ≡ true
static_and_extern = refl

register_twice : has_bad_class sample (node.Specifiers (Stored class.Register ∷ Stored class.Register ∷ [])) ≡ true
register_twice = refl

static_alone : has_bad_class sample (node.Specifiers (Stored class.Static ∷ Word word.Int ∷ [])) ≡ false
static_alone = refl

auto_parameter : has_bad_class sample (node.Parameter (class.Auto ∷ []) (Some (codes "y")) int true) ≡ true
auto_parameter = refl

typedef_parameter : has_bad_class sample (node.Parameter (class.Typedef ∷ []) (Some (codes "y")) int true) ≡ true
typedef_parameter = refl

register_parameter : has_bad_class sample (node.Parameter (class.Register ∷ []) (Some (codes "y")) int true) ≡ false
register_parameter = refl

parameter_without_a_class : has_bad_class sample (node.Parameter [] (Some (codes "y")) int true) ≡ false
parameter_without_a_class = refl

-- 5: a name without linkage is declared twice in a scope

enumerator_named_as_an_object : is_declared_twice sample (node.Enumerator (codes "x") None (pos 0)) ≡ true
enumerator_named_as_an_object = refl

enumerator_named_as_an_outer_one : is_declared_twice sample (node.Enumerator (codes "first") None (pos 0)) ≡ false
enumerator_named_as_an_outer_one = refl

enumerator_that_stands_twice : is_declared_twice outside (node.Enumerator (codes "first") None (pos 0)) ≡ true
enumerator_that_stands_twice = refl

enumerator_named_as_a_tag : is_declared_twice outside (node.Enumerator (codes "s") None (pos 0)) ≡ false
enumerator_named_as_a_tag = refl

parameter_that_stands_twice : is_declared_twice sample (node.ParameterDeclarator (Some (codes "x")) int []) ≡ true
parameter_that_stands_twice = refl

parameter_with_a_new_name : is_declared_twice sample (node.ParameterDeclarator (Some (codes "y")) int []) ≡ false
parameter_with_a_new_name = refl

parameter_without_a_name : is_declared_twice sample (node.ParameterDeclarator None int (ToPointer 0 ∷ [])) ≡ false
parameter_without_a_name = refl

-- 8: a tag is used as another kind, or defined twice in a scope

union_named_as_a_structure : misuses_tag sample (node.RecordTag record_kind.Struct (codes "u")) ≡ true
union_named_as_a_structure = refl

union_named : misuses_tag sample (node.RecordTag record_kind.Union (codes "u")) ≡ false
union_named = refl

new_tag_named : misuses_tag sample (node.RecordTag record_kind.Struct (codes "new")) ≡ false
new_tag_named = refl

enumeration_named_as_a_structure : misuses_tag sample (node.RecordTag record_kind.Struct (codes "e")) ≡ true
enumeration_named_as_a_structure = refl

structure_named_as_an_enumeration : misuses_tag sample (node.EnumerationTag (codes "s")) ≡ true
structure_named_as_an_enumeration = refl

enumeration_named : misuses_tag sample (node.EnumerationTag (codes "e")) ≡ false
enumeration_named = refl

structure_defined_twice : misuses_tag outside (node.Record record_kind.Struct (Some (codes "s")) 0 []) ≡ true
structure_defined_twice = refl

open_structure_defined : misuses_tag outside (node.Record record_kind.Struct (Some (codes "open")) 3 []) ≡ false
open_structure_defined = refl

open_structure_defined_as_a_union : misuses_tag outside (node.Record record_kind.Union (Some (codes "open")) 3 []) ≡ true
open_structure_defined_as_a_union = refl

structure_defined_in_a_block : misuses_tag (opened sample 1 record_kind.Union (Some (codes "s"))).state (node.Record record_kind.Union (Some (codes "s")) 5 []) ≡ false
structure_defined_in_a_block = refl

structure_without_a_tag : misuses_tag outside (node.Record record_kind.Struct None 5 []) ≡ false
structure_without_a_tag = refl

enumeration_listed_twice : misuses_tag outside (node.Enumeration (Some (codes "e"))) ≡ true
enumeration_listed_twice = refl

enumeration_listed_as_a_structure : misuses_tag outside (node.Enumeration (Some (codes "open"))) ≡ true
enumeration_listed_as_a_structure = refl

enumeration_listed_in_a_block : misuses_tag sample (node.Enumeration (Some (codes "e"))) ≡ false
enumeration_listed_in_a_block = refl

-- 9: a member name stands twice in a structure

member_that_stands_twice : repeats_member sample (node.Field (field (codes "m") int None ∷ field (codes "n") int None ∷ []) (Some (codes "m")) int None) ≡ true
member_that_stands_twice = refl

member_named_as_the_second_one : repeats_member sample (node.Field (field (codes "m") int None ∷ field (codes "n") int None ∷ []) (Some (codes "n")) int None) ≡ true
member_named_as_the_second_one = refl

member_with_a_new_name : repeats_member sample (node.Field (field (codes "m") int None ∷ []) (Some (codes "n")) int None) ≡ false
member_with_a_new_name = refl

bit_fields_without_names : repeats_member sample (node.Field (field [] int (Some 3) ∷ []) None int (Some (constant 3))) ≡ false
bit_fields_without_names = refl

-- 10: a member has incomplete or function type

void_member : has_no_object sample (member_of_type (basic Void)) ≡ true
void_member = refl

open_structure_as_a_member : has_no_object sample (member_of_type struct_open) ≡ true
open_structure_as_a_member = refl

open_array_as_a_member : has_no_object sample (member_of_type (Array int None)) ≡ true
open_array_as_a_member = refl

function_as_a_member : has_no_object sample (member_of_type (function int Open)) ≡ true
function_as_a_member = refl

structure_as_a_member : has_no_object sample (member_of_type struct_s) ≡ false
structure_as_a_member = refl

pointer_to_an_open_structure_as_a_member : has_no_object sample (member_of_type (pointer_to struct_open)) ≡ false
pointer_to_an_open_structure_as_a_member = refl

-- 11: a bit-field's type isn't int, signed or unsigned; its width isn't constant, isn't 0 to 32, or is 0 with a name

char_field : is_bad_field sample (bit_field (basic Char) (constant 3)) ≡ true
unfolding fold
char_field = refl

long_field : is_bad_field sample (bit_field (basic Long) (constant 3)) ≡ true
unfolding fold
long_field = refl

enumeration_field : is_bad_field sample (bit_field enum_e (constant 3)) ≡ true
unfolding fold
enumeration_field = refl

int_field : is_bad_field sample (bit_field int (constant 3)) ≡ false
unfolding fold
int_field = refl

const_unsigned_field : is_bad_field sample (bit_field (const (basic Unsigned)) (constant 3)) ≡ false
unfolding fold
const_unsigned_field = refl

field_without_a_constant : is_bad_field sample (bit_field int x) ≡ true
unfolding fold
field_without_a_constant = refl

field_of_33_bits : is_bad_field sample (bit_field int (constant 33)) ≡ true
unfolding fold
field_of_33_bits = refl

field_of_32_bits : is_bad_field sample (bit_field int (constant 32)) ≡ false
unfolding fold
field_of_32_bits = refl

field_of_less_than_0_bits : is_bad_field sample (bit_field int minus_one) ≡ true
unfolding fold
field_of_less_than_0_bits = refl

named_field_of_0_bits : is_bad_field sample (bit_field int (constant 0)) ≡ true
unfolding fold
named_field_of_0_bits = refl

unnamed_field_of_0_bits : is_bad_field sample (unnamed_bit_field (constant 0)) ≡ false
unfolding fold
unnamed_field_of_0_bits = refl

member_that_is_no_field : is_bad_field sample (member_of_type (basic Char)) ≡ false
member_that_is_no_field = refl

-- 12: an enumerator isn't an integer constant that int holds

enumerator_without_a_constant : is_bad_enumerator sample (enumerator x) ≡ true
unfolding fold
enumerator_without_a_constant = refl

enumerator_above_int : is_bad_enumerator sample (enumerator (unsigned_constant 2147483648)) ≡ true
unfolding fold
enumerator_above_int = refl

enumerator_below_zero : is_bad_enumerator sample (enumerator minus_one) ≡ false
unfolding fold
enumerator_below_zero = refl

greatest_enumerator : is_bad_enumerator sample (enumerator (constant 2147483647)) ≡ false
unfolding fold
greatest_enumerator = refl

enumerator_behind_the_greatest : is_bad_enumerator sample (next_enumerator (pos 2147483648)) ≡ true
enumerator_behind_the_greatest = refl

enumerator_below_int : is_bad_enumerator sample (next_enumerator (negsuc 2147483648)) ≡ true
enumerator_below_int = refl

least_enumerator : is_bad_enumerator sample (next_enumerator (negsuc 2147483647)) ≡ false
least_enumerator = refl

enumerator_behind_others : is_bad_enumerator sample (next_enumerator (pos 2147483647)) ≡ false
enumerator_behind_others = refl

-- 13: an array size isn't a constant above 0

size_of_0 : has_bad_size sample (declarator_with_size (constant 0)) ≡ true
unfolding fold
size_of_0 = refl

size_below_0 : has_bad_size sample (declarator_with_size minus_one) ≡ true
unfolding fold
size_below_0 = refl

size_without_a_constant : has_bad_size sample (declarator_with_size x) ≡ true
unfolding fold
size_without_a_constant = refl

size_of_1 : has_bad_size sample (declarator_with_size (constant 1)) ≡ false
unfolding fold
size_of_1 = refl

no_size : has_bad_size sample (over_int (ToArray None ∷ [])) ≡ false
no_size = refl

size_of_0_behind_a_pointer : has_bad_size sample (over_int (ToPointer 0 ∷ ToArray (Some (constant 0)) ∷ [])) ≡ true
unfolding fold
size_of_0_behind_a_pointer = refl

size_of_0_in_a_parameter : has_bad_size sample (node.ParameterDeclarator None int (ToArray (Some (constant 0)) ∷ [])) ≡ true
unfolding fold
size_of_0_in_a_parameter = refl

-- 14: an array's element is a function, void or incomplete

array_of_void : has_bad_element sample (node.Declarator (basic Void) (ToArray None ∷ [])) ≡ true
array_of_void = refl

array_of_open_structures : has_bad_element sample (node.Declarator struct_open (ToArray None ∷ [])) ≡ true
array_of_open_structures = refl

array_of_functions : has_bad_element sample (over_int (to_function ∷ ToArray None ∷ [])) ≡ true
array_of_functions = refl

array_of_open_arrays : has_bad_element sample (over_int (ToArray None ∷ ToArray (Some (constant 2)) ∷ [])) ≡ true
unfolding fold
array_of_open_arrays = refl

open_array_of_arrays : has_bad_element sample (over_int (ToArray (Some (constant 2)) ∷ ToArray None ∷ [])) ≡ false
unfolding fold
open_array_of_arrays = refl

array_of_structures : has_bad_element sample (node.Declarator struct_s (ToArray None ∷ [])) ≡ false
array_of_structures = refl

array_of_pointers_to_void : has_bad_element sample (node.Declarator (basic Void) (ToPointer 0 ∷ ToArray None ∷ [])) ≡ false
array_of_pointers_to_void = refl

array_of_open_structures_as_a_parameter : has_bad_element sample (node.ParameterDeclarator None struct_open (ToArray None ∷ [])) ≡ true
array_of_open_structures_as_a_parameter = refl

-- 15: a function returns a function or an array

function_that_returns_an_array : has_bad_result sample (over_int (ToArray None ∷ ToOpen ∷ [])) ≡ true
function_that_returns_an_array = refl

function_that_returns_a_function : has_bad_result sample (over_int (ToOpen ∷ to_function ∷ [])) ≡ true
function_that_returns_a_function = refl

old_function_that_returns_an_array : has_bad_result sample (over_int (ToArray None ∷ ToNamed (codes "y" ∷ []) ∷ [])) ≡ true
old_function_that_returns_an_array = refl

function_that_returns_a_pointer_to_an_array : has_bad_result sample (over_int (ToArray None ∷ ToPointer 0 ∷ ToOpen ∷ [])) ≡ false
function_that_returns_a_pointer_to_an_array = refl

function_that_returns_void : has_bad_result sample (node.Declarator (basic Void) (ToOpen ∷ [])) ≡ false
function_that_returns_void = refl

-- 17: `void` stands among several parameters, or names one

void_with_a_name : is_bad_void sample (node.Parameter [] (Some (codes "y")) (basic Void) true) ≡ true
void_with_a_name = refl

void_among_several : is_bad_void sample (node.Parameter [] None (basic Void) false) ≡ true
void_among_several = refl

void_alone : is_bad_void sample (node.Parameter [] None (basic Void) true) ≡ false
void_alone = refl

const_void_alone : is_bad_void sample (node.Parameter [] None (const (basic Void)) true) ≡ false
const_void_alone = refl

void_pointer_among_several : is_bad_void sample (node.Parameter [] (Some (codes "y")) (pointer_to (basic Void)) false) ≡ false
void_pointer_among_several = refl

-- 19: a name list without a definition

name_list : has_name_list sample (over_int (ToNamed (codes "y" ∷ []) ∷ [])) ≡ true
name_list = refl

name_list_behind_a_pointer : has_name_list sample (over_int (ToNamed (codes "y" ∷ []) ∷ ToPointer 0 ∷ [])) ≡ true
name_list_behind_a_pointer = refl

name_list_of_a_parameter : has_name_list sample (node.ParameterDeclarator None int (ToNamed (codes "y" ∷ []) ∷ [])) ≡ true
name_list_of_a_parameter = refl

no_list : has_name_list sample (over_int (ToOpen ∷ [])) ≡ false
no_list = refl

prototype : has_name_list sample (over_int (to_function ∷ [])) ≡ false
prototype = refl
