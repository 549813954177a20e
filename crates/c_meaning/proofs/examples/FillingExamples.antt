-- Examples of which place gets which expression, and of the constraints on initialisers.
use Rattle.std.specs.Prelude.{◌≡◌, refl, ℕ, ℤ, pos, codes, zero, suc, true, false, Option, Some, None, List, [], ◌∷◌}
use Rattle.lcc_base.specs.declared.which.Which.TheVariants as which
use Rattle.c_ast.specs.declared.class.IntKind.TheVariants as int_kind
use Rattle.c_ast.specs.declared.operator.BinaryOperator.TheVariants as binary
use Rattle.c_ast.specs.declared.operator.PrefixOperator.TheVariants as prefix
use Rattle.c_ast.specs.declared.specifier.BasicType.{BasicType}
use Rattle.c_ast.specs.declared.specifier.BasicType.TheVariants as word
use Rattle.c_ast.specs.declared.specifier.RecordKind.TheVariants as record_kind
use Rattle.c_ast.specs.declared.specifier.Storage.TheVariants as class
use Rattle.c_ast.specs.Trees.{ExprTree, Name, Integer, Text, Enclosed, Prefix, Binary, Cast, Call, NoExprs, TypeNamed, SpecifiersTree, Specified, Basic, NoSpecifiers, Specifiers, NoDeclarator, ADeclarator, Declarator, Omitted, NoSuffixes, InitialiserTree, ByExpr, Braced, InitialiserTrees, NoInitialisers, Initialisers}
use Rattle.c_types.specs.CType.{Char, SignedChar, UnsignedChar, Unsigned, Void, CType, Plain, Array, Structure, Union, Open, basic}
use Rattle.c_meaning.specs.declared.core_expr.CoreKind.TheVariants as kind
use Rattle.c_meaning.specs.CoreTrees.{Core, none, one}
use Rattle.c_meaning.specs.StmtTrees.{FilledOf}
use Rattle.c_meaning.specs.State.{State}
use Rattle.c_meaning.specs.TypeRows as type
use Rattle.c_meaning.specs.Constants.{fold}
use Rattle.c_meaning.specs.Constraints.{Breaks, Passes, fault_at}
use Rattle.c_meaning.specs.Typing.{Outcome, Fine, Bad}
use Rattle.c_meaning.specs.Laws.{fault_of}
use Rattle.c_meaning.specs.Types.{pointer_to}
use Rattle.c_meaning.specs.Scalars.{conversion_to}
use Rattle.c_meaning.specs.Values.{CoreTree}
use Rattle.c_meaning.specs.Samples.{sample, int, const, struct_s, struct_open, union_u, function, field}
use Rattle.c_meaning.specs.Rows.{literal}
use Rattle.c_meaning.specs.Linkage.{with_name}
use Rattle.c_meaning.specs.Filling.{characters}
use Rattle.c_meaning.specs.Initialising.{Filled, typed_initialiser, init_fault}

-- ---- initialisers, of line 1 where no line is given

abbrev items : List InitialiserTree → InitialiserTrees
items [] = NoInitialisers
items (i ∷ is) = Initialisers i (items is)

abbrev list : List InitialiserTree → InitialiserTree
list is = Braced 1 (items is) false

-- a number, and a string
abbrev n : ℕ → InitialiserTree
n k = ByExpr 1 (Integer 1 k int_kind.Int)

abbrev text : List ℕ → InitialiserTree
text bytes = ByExpr 1 (Text 1 (bytes ∷ []))

abbrev expr : ExprTree → InitialiserTree
expr e = ByExpr 1 e

-- the local objects x, and s, a structure
abbrev x : ExprTree
x = Name 1 (codes "x")

-- the function g
abbrev g : ExprTree
g = Name 1 (codes "g")

-- In the function, behind `struct s t; extern int number;` and
--
--     union pair { char c; int m; };
--     struct gaps { int : 3; int m; int : 0; int k; };
--     struct outer { struct hole { int : 3; } h; int m; };
--     struct bits { unsigned a : 3, b : 5; };
abbrev union_pair : CType
union_pair = Plain 0 (Union 5)

abbrev struct_gaps : CType
struct_gaps = Plain 0 (Structure 6)

abbrev struct_hole : CType
struct_hole = Plain 0 (Structure 7)

abbrev struct_outer : CType
struct_outer = Plain 0 (Structure 8)

abbrev struct_bits : CType
struct_bits = Plain 0 (Structure 9)

abbrev with_structures : State → State
with_structures s =
    type.completed
    (type.completed
    (type.completed
    (type.completed
    (type.completed s record_kind.Union 5 (field (codes "c") (basic Char) None ∷ field (codes "m") int None ∷ []))
    record_kind.Struct 6 (field [] int (Some 3) ∷ field (codes "m") int None ∷ field [] int (Some 0) ∷ field (codes "k") int None ∷ []))
    record_kind.Struct 7 (field [] int (Some 3) ∷ []))
    record_kind.Struct 8 (field (codes "h") struct_hole None ∷ field (codes "m") int None ∷ []))
    record_kind.Struct 9 (field (codes "a") (basic Unsigned) (Some 3) ∷ field (codes "b") (basic Unsigned) (Some 5) ∷ [])

abbrev here : State
here = with_name (with_name (with_structures sample) 1 None (codes "t") struct_s) 1 (Some class.Extern) (codes "number") int

abbrev automatic : CType → InitialiserTree → Outcome Filled
automatic of i = typed_initialiser here (record { of = of; static = false; barred = false }) i

abbrev static : CType → InitialiserTree → Outcome Filled
static of i = typed_initialiser here (record { of = of; static = true; barred = false }) i

-- where something is stored, in which bits of a bit-field, and its value where that is constant
pub record Shown : Type 0 where
  pub offset : ℕ
  pub first : ℕ
  pub width : ℕ
  pub value : Option ℤ

abbrev shown : List (FilledOf CType) → List Shown
shown [] = []
shown (p ∷ ps) = record { offset = p.offset; first = p.first; width = p.width; value = fold p.value } ∷ shown ps

abbrev places : Outcome Filled → List Shown
places (Fine s f) = shown f.places
places (Bad f) = []

abbrev at : ℕ → ℕ → Shown
at offset value = record { offset = offset; first = 0; width = 0; value = Some (pos value) }

abbrev bits : ℕ → ℕ → ℕ → Shown
bits offset width value = record { offset = offset; first = 0; width = width; value = Some (pos value) }

-- behind other bits of the unit
abbrev later_bits : ℕ → ℕ → ℕ → ℕ → Shown
later_bits offset first width value = record { offset = offset; first = first; width = width; value = Some (pos value) }

-- what is stored, and a string in an array of this type at an offset
abbrev filled : Outcome Filled → List (FilledOf CType)
filled (Fine s f) = f.places
filled (Bad f) = []

abbrev string : ℕ → CType → List ℕ → FilledOf CType
string offset of bytes = record { of = of; offset = offset; first = 0; width = 0; value = literal 1 bytes }

abbrev completed : Outcome Filled → CType
completed (Fine s f) = f.of
completed (Bad f) = basic Void

abbrev matrix : CType
matrix = Array (Array int (Some 3)) (Some 2)

-- the type that is stored, and where
pub record Shape : Type 0 where
  pub offset : ℕ
  pub of : CType

abbrev all_shapes : List (FilledOf CType) → List Shape
all_shapes [] = []
all_shapes (p ∷ ps) = record { offset = p.offset; of = p.of } ∷ all_shapes ps

abbrev shapes : Outcome Filled → List Shape
shapes (Fine s f) = all_shapes f.places
shapes (Bad f) = []

abbrev place : ℕ → CType → Shape
place offset of = record { offset = offset; of = of }

-- the values that are stored
abbrev all_values : List (FilledOf CType) → List CoreTree
all_values [] = []
all_values (p ∷ ps) = p.value ∷ all_values ps

abbrev values : Outcome Filled → List CoreTree
values (Fine s f) = all_values f.places
values (Bad f) = []

-- ---- further expressions

abbrev number : ExprTree
number = Name 1 (codes "number")

abbrev t : ExprTree
t = Name 1 (codes "t")

abbrev address : ExprTree → ExprTree
address e = Prefix 1 prefix.Address e

abbrev ab : ExprTree
ab = Text 1 (codes "ab" ∷ [])

abbrev plus : ExprTree → ℕ → ExprTree
plus e k = Binary 1 binary.Add e (Integer 1 k int_kind.Int)

abbrev minus : ExprTree → ℕ → ExprTree
minus e k = Binary 1 binary.Subtract e (Integer 1 k int_kind.Int)

abbrev specified : BasicType → SpecifiersTree
specified w = Specified 1 (Specifiers (Basic 1 w) NoSpecifiers)

-- (int)e, (char *)k
abbrev cast : ExprTree → ExprTree
cast e = Cast 1 (TypeNamed 1 (specified word.Int) NoDeclarator) e

abbrev pointer_cast : ℕ → ExprTree
pointer_cast k = Cast 1 (TypeNamed 1 (specified word.Char) (ADeclarator (Declarator 1 ([] ∷ []) Omitted NoSuffixes))) (Integer 1 k int_kind.Int)

-- ---- arrays and structures

-- int a[2][3] = {1, 2, 3, 4};
in_rows : places (automatic matrix (list (n 1 ∷ n 2 ∷ n 3 ∷ n 4 ∷ []))) ≡ at 0 1 ∷ at 4 2 ∷ at 8 3 ∷ at 12 4 ∷ []
unfolding fold fault_at init_fault
in_rows = refl

-- int a[2][3] = {{1}, {2, 3}};
each_row_in_braces : places (automatic matrix (list (list (n 1 ∷ []) ∷ list (n 2 ∷ n 3 ∷ []) ∷ []))) ≡ at 0 1 ∷ at 12 2 ∷ at 16 3 ∷ []
unfolding fold fault_at init_fault
each_row_in_braces = refl

-- int a[2][3] = {{1}, 2, 3};
behind_a_row_in_braces : places (automatic matrix (list (list (n 1 ∷ []) ∷ n 2 ∷ n 3 ∷ []))) ≡ at 0 1 ∷ at 12 2 ∷ at 16 3 ∷ []
unfolding fold fault_at init_fault
behind_a_row_in_braces = refl

-- int a[2][3] = {1, {2}, 3, 4};
row_that_was_entered_goes_on : places (automatic matrix (list (n 1 ∷ list (n 2 ∷ []) ∷ n 3 ∷ n 4 ∷ []))) ≡ at 0 1 ∷ at 4 2 ∷ at 8 3 ∷ at 12 4 ∷ []
unfolding fold fault_at init_fault
row_that_was_entered_goes_on = refl

-- int a[2][3] = {1, 2, 3, {4}};
row_in_braces_behind_a_full_one : places (automatic matrix (list (n 1 ∷ n 2 ∷ n 3 ∷ list (n 4 ∷ []) ∷ []))) ≡ at 0 1 ∷ at 4 2 ∷ at 8 3 ∷ at 12 4 ∷ []
unfolding fold fault_at init_fault
row_in_braces_behind_a_full_one = refl

-- int a[2][3] = {1, 2, 3, 4, 5, 6};
last_place_of_rows : fault_of (automatic matrix (list (n 1 ∷ n 2 ∷ n 3 ∷ n 4 ∷ n 5 ∷ n 6 ∷ []))) ≡ None
unfolding fold fault_at init_fault
last_place_of_rows = refl

-- int a[2][3] = {1, 2, 3, 4, 5, 6, 7};
one_behind_the_rows : fault_of (automatic matrix (list (n 1 ∷ n 2 ∷ n 3 ∷ n 4 ∷ n 5 ∷ n 6 ∷ n 7 ∷ []))) ≡ Some (Breaks 23 1)
unfolding fold fault_at init_fault
one_behind_the_rows = refl

-- int a[2][3] = {{1, 2, 3, 4}};
one_behind_a_row : fault_of (automatic matrix (list (Braced 2 (items (n 1 ∷ n 2 ∷ n 3 ∷ n 4 ∷ [])) false ∷ []))) ≡ Some (Breaks 23 2)
unfolding fold fault_at init_fault
one_behind_a_row = refl

-- struct s t = {1, 2, {3, 4}};
structure_by_members : places (automatic struct_s (list (n 1 ∷ n 2 ∷ list (n 3 ∷ n 4 ∷ []) ∷ []))) ≡ at 0 1 ∷ bits 4 3 2 ∷ at 8 3 ∷ at 12 4 ∷ []
unfolding fold fault_at init_fault
structure_by_members = refl

-- struct s t = {1, 2, 3, 4};
structure_without_inner_braces : places (automatic struct_s (list (n 1 ∷ n 2 ∷ n 3 ∷ n 4 ∷ []))) ≡ at 0 1 ∷ bits 4 3 2 ∷ at 8 3 ∷ at 12 4 ∷ []
unfolding fold fault_at init_fault
structure_without_inner_braces = refl

-- struct s t = {{1}, 2};
member_behind_one_in_braces : places (automatic struct_s (list (list (n 1 ∷ []) ∷ n 2 ∷ []))) ≡ at 0 1 ∷ bits 4 3 2 ∷ []
unfolding fold fault_at init_fault
member_behind_one_in_braces = refl

-- struct bits { unsigned a : 3, b : 5; } t = {1, 2};
bits_of_one_unit : places (automatic struct_bits (list (n 1 ∷ n 2 ∷ []))) ≡ bits 0 3 1 ∷ later_bits 0 3 5 2 ∷ []
unfolding fold fault_at init_fault
bits_of_one_unit = refl

-- struct s t = {1, 2, 3, 4, 5};
one_behind_the_members : fault_of (automatic struct_s (list (n 1 ∷ n 2 ∷ n 3 ∷ n 4 ∷ n 5 ∷ []))) ≡ Some (Breaks 23 1)
unfolding fold fault_at init_fault
one_behind_the_members = refl

-- struct s t[2] = {{1}, 2, 3};
structures_one_behind_another : places (automatic (Array struct_s (Some 2)) (list (list (n 1 ∷ []) ∷ n 2 ∷ n 3 ∷ []))) ≡ at 0 1 ∷ at 16 2 ∷ bits 20 3 3 ∷ []
unfolding fold fault_at init_fault
structures_one_behind_another = refl

-- struct s t[2] = {1, 2, 3, 4, 5};
elements_behind_a_structure : places (automatic (Array struct_s (Some 2)) (list (n 1 ∷ n 2 ∷ n 3 ∷ n 4 ∷ n 5 ∷ []))) ≡ at 0 1 ∷ bits 4 3 2 ∷ at 8 3 ∷ at 12 4 ∷ at 16 5 ∷ []
unfolding fold fault_at init_fault
elements_behind_a_structure = refl

-- union u v = {7};
union_by_its_first_member : places (automatic union_u (list (n 7 ∷ []))) ≡ at 0 7 ∷ []
unfolding fold fault_at init_fault
union_by_its_first_member = refl

-- union u v[2] = {7, 8};
unions_one_behind_another : places (automatic (Array union_u (Some 2)) (list (n 7 ∷ n 8 ∷ []))) ≡ at 0 7 ∷ at 4 8 ∷ []
unfolding fold fault_at init_fault
unions_one_behind_another = refl

-- union pair { char c; int m; } v = {7, 8};
second_member_of_a_union : fault_of (automatic union_pair (list (n 7 ∷ n 8 ∷ []))) ≡ Some (Breaks 23 1)
unfolding fold fault_at init_fault
second_member_of_a_union = refl

-- struct gaps { int : 3; int m; int : 0; int k; } g = {1, 2};
members_without_names : places (automatic struct_gaps (list (n 1 ∷ n 2 ∷ []))) ≡ at 4 1 ∷ at 8 2 ∷ []
unfolding fold fault_at init_fault
members_without_names = refl

-- struct outer { struct hole { int : 3; } h; int m; } o = {1};
structure_without_named_members : places (automatic struct_outer (list (n 1 ∷ []))) ≡ at 4 1 ∷ []
unfolding fold fault_at init_fault
structure_without_named_members = refl

-- struct outer o[2] = {1, 2};
elements_without_a_first_place : places (automatic (Array struct_outer (Some 2)) (list (n 1 ∷ n 2 ∷ []))) ≡ at 4 1 ∷ at 12 2 ∷ []
unfolding fold fault_at init_fault
elements_without_a_first_place = refl

-- struct s t = s1;
structure_by_a_structure : fault_of (automatic struct_s (expr t)) ≡ None
unfolding fold fault_at init_fault
structure_by_a_structure = refl

-- const struct s t = s1;
constant_structure_by_a_structure : fault_of (automatic (const struct_s) (expr t)) ≡ None
unfolding fold fault_at init_fault
constant_structure_by_a_structure = refl

-- struct s t[2] = {s1, 2};
member_by_a_structure : shapes (automatic (Array struct_s (Some 2)) (list (expr t ∷ n 2 ∷ []))) ≡ place 0 struct_s ∷ place 16 int ∷ []
unfolding fold fault_at init_fault
member_by_a_structure = refl

-- union u v = s1;
structure_by_another : fault_of (automatic union_u (expr t)) ≡ Some (Breaks 25 1)
unfolding fold fault_at init_fault
structure_by_another = refl

-- ---- characters

-- char c[4] = "abc";
string_with_its_null : filled (automatic (Array (basic Char) (Some 4)) (text (codes "abc"))) ≡ string 0 (Array (basic Char) (Some 4)) (codes "abc") ∷ []
unfolding fold fault_at init_fault
string_with_its_null = refl

-- char c[3] = "abc";
string_without_its_null : filled (automatic (Array (basic Char) (Some 3)) (text (codes "abc"))) ≡ string 0 (Array (basic Char) (Some 3)) (codes "abc") ∷ []
unfolding fold fault_at init_fault
string_without_its_null = refl

-- char c[2] = "abc";
string_too_long : fault_of (automatic (Array (basic Char) (Some 2)) (text (codes "abc"))) ≡ Some (Breaks 26 1)
unfolding fold fault_at init_fault
string_too_long = refl

-- char c[6] = "ab";
string_with_room : filled (automatic (Array (basic Char) (Some 6)) (text (codes "ab"))) ≡ string 0 (Array (basic Char) (Some 6)) (codes "ab") ∷ []
unfolding fold fault_at init_fault
string_with_room = refl

-- char c[4] = {"abc"};
string_in_braces : filled (automatic (Array (basic Char) (Some 4)) (list (text (codes "abc") ∷ []))) ≡ string 0 (Array (basic Char) (Some 4)) (codes "abc") ∷ []
unfolding fold fault_at init_fault
string_in_braces = refl

-- char c[4] = {("abc")};
string_in_both_kinds_of_parentheses : filled (automatic (Array (basic Char) (Some 4)) (list (ByExpr 1 (Enclosed 1 (Text 1 (codes "abc" ∷ []))) ∷ []))) ≡ string 0 (Array (basic Char) (Some 4)) (codes "abc") ∷ []
unfolding fold fault_at init_fault
string_in_both_kinds_of_parentheses = refl

-- char c[4] = {"ab", 1};
one_behind_a_string_in_braces : fault_of (automatic (Array (basic Char) (Some 4)) (list (text (codes "ab") ∷ n 1 ∷ []))) ≡ Some (Breaks 23 1)
unfolding fold fault_at init_fault
one_behind_a_string_in_braces = refl

-- char c[2][3] = {"ab", "c"};
string_among_strings : filled (automatic (Array (Array (basic Char) (Some 3)) (Some 2)) (list (text (codes "ab") ∷ text (codes "c") ∷ []))) ≡ string 0 (Array (basic Char) (Some 3)) (codes "ab") ∷ string 3 (Array (basic Char) (Some 3)) (codes "c") ∷ []
unfolding fold fault_at init_fault
string_among_strings = refl

-- signed char c[2] = "ab";
string_over_signed_characters : filled (automatic (Array (basic SignedChar) (Some 2)) (text (codes "ab"))) ≡ string 0 (Array (basic SignedChar) (Some 2)) (codes "ab") ∷ []
unfolding fold fault_at init_fault
string_over_signed_characters = refl

-- unsigned char c[1] = "a";
string_over_unsigned_characters : filled (automatic (Array (basic UnsignedChar) (Some 1)) (text (codes "a"))) ≡ string 0 (Array (basic UnsignedChar) (Some 1)) (codes "a") ∷ []
unfolding fold fault_at init_fault
string_over_unsigned_characters = refl

-- const char c[2] = "ab";
string_over_constant_characters : filled (automatic (Array (const (basic Char)) (Some 2)) (text (codes "ab"))) ≡ string 0 (Array (const (basic Char)) (Some 2)) (codes "ab") ∷ []
unfolding fold fault_at init_fault
string_over_constant_characters = refl

-- int a[3] = "ab";
string_over_ints : fault_of (automatic (Array int (Some 3)) (text (codes "ab"))) ≡ Some (Breaks 25 1)
unfolding fold fault_at init_fault
string_over_ints = refl

-- int a[3] = {"ab"};
string_in_braces_over_ints : fault_of (automatic (Array int (Some 3)) (list (text (codes "ab") ∷ []))) ≡ Some (Breaks 25 1)
unfolding fold fault_at init_fault
string_in_braces_over_ints = refl

-- char *c = "ab";
string_of_a_pointer : fault_of (automatic (pointer_to (basic Char)) (text (codes "ab"))) ≡ None
unfolding fold fault_at init_fault
string_of_a_pointer = refl

-- char c[2] = {97, 98};
characters_as_numbers : places (automatic (Array (basic Char) (Some 2)) (list (n 97 ∷ n 98 ∷ []))) ≡ at 0 97 ∷ at 1 98 ∷ []
unfolding fold fault_at init_fault
characters_as_numbers = refl

-- char c[2] = {{97}, 98};
character_behind_one_in_braces : places (automatic (Array (basic Char) (Some 2)) (list (list (n 97 ∷ []) ∷ n 98 ∷ []))) ≡ at 0 97 ∷ at 1 98 ∷ []
unfolding fold fault_at init_fault
character_behind_one_in_braces = refl

-- the bytes that a string gives to an array
bytes_with_a_null : characters 4 (codes "abc") ≡ 97 ∷ 98 ∷ 99 ∷ 0 ∷ []
bytes_with_a_null = refl

bytes_without_a_null : characters 3 (codes "abc") ≡ 97 ∷ 98 ∷ 99 ∷ []
bytes_without_a_null = refl

bytes_and_zeros : characters 5 (codes "ab") ≡ 97 ∷ 98 ∷ 0 ∷ 0 ∷ 0 ∷ []
bytes_and_zeros = refl

-- ---- arrays of unknown size

-- char c[] = "ab";
string_of_unknown_size : filled (automatic (Array (basic Char) None) (text (codes "ab"))) ≡ string 0 (Array (basic Char) (Some 3)) (codes "ab") ∷ []
unfolding fold fault_at init_fault
string_of_unknown_size = refl

-- int a[] = {1, 2, 3};
as_many_elements : completed (automatic (Array int None) (list (n 1 ∷ n 2 ∷ n 3 ∷ []))) ≡ Array int (Some 3)
unfolding fold fault_at init_fault
as_many_elements = refl

-- int a[][2] = {1, 2, 3};
rows_begun : completed (automatic (Array (Array int (Some 2)) None) (list (n 1 ∷ n 2 ∷ n 3 ∷ []))) ≡ Array (Array int (Some 2)) (Some 2)
unfolding fold fault_at init_fault
rows_begun = refl

-- int a[][2] = {{1}, {2}, {3}};
rows_in_braces : completed (automatic (Array (Array int (Some 2)) None) (list (list (n 1 ∷ []) ∷ list (n 2 ∷ []) ∷ list (n 3 ∷ []) ∷ []))) ≡ Array (Array int (Some 2)) (Some 3)
unfolding fold fault_at init_fault
rows_in_braces = refl

-- char c[] = "ab";
string_counts_its_null : completed (automatic (Array (basic Char) None) (text (codes "ab"))) ≡ Array (basic Char) (Some 3)
unfolding fold fault_at init_fault
string_counts_its_null = refl

-- char c[] = {"ab"};
string_in_braces_of_unknown_size : filled (automatic (Array (basic Char) None) (list (text (codes "ab") ∷ []))) ≡ string 0 (Array (basic Char) (Some 3)) (codes "ab") ∷ []
unfolding fold fault_at init_fault
string_in_braces_of_unknown_size = refl

-- char c[] = {"ab"};
string_in_braces_counts_its_null : completed (automatic (Array (basic Char) None) (list (text (codes "ab") ∷ []))) ≡ Array (basic Char) (Some 3)
unfolding fold fault_at init_fault
string_in_braces_counts_its_null = refl

-- int a[5] = {1};
known_size_stays : completed (automatic (Array int (Some 5)) (list (n 1 ∷ []))) ≡ Array int (Some 5)
unfolding fold fault_at init_fault
known_size_stays = refl

-- ---- scalars

-- int y = 1;
scalar : places (automatic int (n 1)) ≡ at 0 1 ∷ []
unfolding fold fault_at init_fault
scalar = refl

-- int y = x;
value_of_a_variable : values (automatic int (expr x)) ≡ Core kind.Read int 1 (one (Core (kind.Local 0 false) int 1 none)) ∷ []
unfolding fold fault_at init_fault
value_of_a_variable = refl

-- const char y = 1;
value_that_is_converted : values (automatic (const (basic Char)) (n 1)) ≡ Core (kind.Convert (conversion_to (basic Char))) (basic Char) 1 (one (Core (kind.Number 1) int 1 none)) ∷ []
unfolding fold fault_at init_fault
value_that_is_converted = refl

-- int y = {1};
scalar_in_braces : places (automatic int (list (n 1 ∷ []))) ≡ at 0 1 ∷ []
unfolding fold fault_at init_fault
scalar_in_braces = refl

-- int y = {1, 2};
scalar_by_two : fault_of (automatic int (list (n 1 ∷ n 2 ∷ []))) ≡ Some (Breaks 23 1)
unfolding fold fault_at init_fault
scalar_by_two = refl

-- int y = {{1}};
scalar_in_two_braces : fault_of (automatic int (list (Braced 2 (items (n 1 ∷ [])) false ∷ []))) ≡ Some (Breaks 25 2)
unfolding fold fault_at init_fault
scalar_in_two_braces = refl

-- int y = {{1, 2}};
scalar_by_two_in_two_braces : fault_of (automatic int (list (Braced 2 (items (n 1 ∷ n 2 ∷ [])) false ∷ []))) ≡ Some (Breaks 23 2)
unfolding fold fault_at init_fault
scalar_by_two_in_two_braces = refl

-- int y = {1, {2}};
scalar_and_a_list : fault_of (automatic int (Braced 3 (items (n 1 ∷ Braced 2 (items (n 2 ∷ [])) false ∷ [])) false)) ≡ Some (Breaks 23 3)
unfolding fold fault_at init_fault
scalar_and_a_list = refl

-- int a[1] = {{1}};
element_in_braces : fault_of (automatic (Array int (Some 1)) (list (list (n 1 ∷ []) ∷ []))) ≡ None
unfolding fold fault_at init_fault
element_in_braces = refl

-- int a[1] = {{{1}}};
element_in_two_braces : fault_of (automatic (Array int (Some 1)) (list (list (Braced 2 (items (n 1 ∷ [])) false ∷ []) ∷ []))) ≡ Some (Breaks 25 2)
unfolding fold fault_at init_fault
element_in_two_braces = refl

-- int *q = 1;
pointer_by_one : fault_of (automatic (pointer_to int) (n 1)) ≡ Some (Breaks 25 1)
unfolding fold fault_at init_fault
pointer_by_one = refl

-- int *q = 0;
pointer_by_zero : fault_of (automatic (pointer_to int) (n 0)) ≡ None
unfolding fold fault_at init_fault
pointer_by_zero = refl

-- int a[1] = 1;
array_by_a_number : fault_of (automatic (Array int (Some 1)) (n 1)) ≡ Some (Breaks 25 1)
unfolding fold fault_at init_fault
array_by_a_number = refl

-- struct s t = 1;
structure_by_a_number : fault_of (automatic struct_s (n 1)) ≡ Some (Breaks 25 1)
unfolding fold fault_at init_fault
structure_by_a_number = refl

-- ---- types that have no initialiser

-- struct open o = {1};
incomplete_structure : fault_of (automatic struct_open (list (n 1 ∷ []))) ≡ Some (Breaks 27 1)
unfolding fold fault_at init_fault
incomplete_structure = refl

-- struct open o = {1, {2}};
incomplete_structure_by_lists : fault_of (automatic struct_open (Braced 3 (items (n 1 ∷ list (n 2 ∷ []) ∷ [])) false)) ≡ Some (Breaks 27 3)
unfolding fold fault_at init_fault
incomplete_structure_by_lists = refl

-- int a[1] = {1, {2}};
list_without_a_place : fault_of (automatic (Array int (Some 1)) (Braced 3 (items (n 1 ∷ list (n 2 ∷ []) ∷ [])) false)) ≡ Some (Breaks 23 3)
unfolding fold fault_at init_fault
list_without_a_place = refl

-- struct open o = 1;
incomplete_structure_by_a_number : fault_of (automatic struct_open (n 1)) ≡ Some (Breaks 27 1)
unfolding fold fault_at init_fault
incomplete_structure_by_a_number = refl

-- int h() = 1;
function_by_a_number : fault_of (automatic (function int Open) (n 1)) ≡ Some (Breaks 27 1)
unfolding fold fault_at init_fault
function_by_a_number = refl

-- ---- static objects

-- static int y = 1;
static_number : fault_of (static int (n 1)) ≡ None
unfolding fold fault_at init_fault
static_number = refl

-- static int y = x;
static_variable : fault_of (static int (expr x)) ≡ Some (Breaks 24 1)
unfolding fold fault_at init_fault
static_variable = refl

-- static int *q = x;
static_pointer_by_a_variable : fault_of (static (pointer_to int) (expr x)) ≡ Some (Breaks 24 1)
unfolding fold fault_at init_fault
static_pointer_by_a_variable = refl

-- int y = x;
automatic_variable : fault_of (automatic int (expr x)) ≡ None
unfolding fold fault_at init_fault
automatic_variable = refl

-- static int a[2] = {1, x};
static_variable_among_items : fault_of (static (Array int (Some 2)) (list (n 1 ∷ ByExpr 2 x ∷ []))) ≡ Some (Breaks 24 2)
unfolding fold fault_at init_fault
static_variable_among_items = refl

-- static int *q = &x;
static_address_of_a_local : fault_of (static (pointer_to int) (expr (address x))) ≡ Some (Breaks 24 1)
unfolding fold fault_at init_fault
static_address_of_a_local = refl

-- static int *q = &number;
static_address : fault_of (static (pointer_to int) (expr (address number))) ≡ None
unfolding fold fault_at init_fault
static_address = refl

-- static int (*q)() = g;
static_function : fault_of (static (pointer_to (function int Open)) (expr g)) ≡ None
unfolding fold fault_at init_fault
static_function = refl

-- static char *c = "ab";
static_string : fault_of (static (pointer_to (basic Char)) (text (codes "ab"))) ≡ None
unfolding fold fault_at init_fault
static_string = refl

-- static char *c = "ab" + 3;
static_one_past : fault_of (static (pointer_to (basic Char)) (expr (plus ab 3))) ≡ None
unfolding fold fault_at init_fault
static_one_past = refl

-- static char *c = "ab" + 4;
static_two_past : fault_of (static (pointer_to (basic Char)) (expr (plus ab 4))) ≡ Some (Breaks 24 1)
unfolding fold fault_at init_fault
static_two_past = refl

-- static char *c = "ab" - 1;
static_address_before : fault_of (static (pointer_to (basic Char)) (expr (minus ab 1))) ≡ Some (Breaks 24 1)
unfolding fold fault_at init_fault
static_address_before = refl

-- static int y = (int)"ab";
static_address_as_a_number : fault_of (static int (expr (cast ab))) ≡ Some (Breaks 24 1)
unfolding fold fault_at init_fault
static_address_as_a_number = refl

-- static char *c = (char *)8;
static_number_as_a_pointer : fault_of (static (pointer_to (basic Char)) (expr (pointer_cast 8))) ≡ None
unfolding fold fault_at init_fault
static_number_as_a_pointer = refl

-- static int y = g();
static_call : fault_of (static int (expr (Call 1 g NoExprs))) ≡ Some (Breaks 24 1)
unfolding fold fault_at init_fault
static_call = refl

-- static int *q = 1;
static_pointer_by_one : fault_of (static (pointer_to int) (n 1)) ≡ Some (Breaks 25 1)
unfolding fold fault_at init_fault
static_pointer_by_one = refl

-- static char c[2] = "a";
static_string_over_characters : fault_of (static (Array (basic Char) (Some 2)) (text (codes "a"))) ≡ None
unfolding fold fault_at init_fault
static_string_over_characters = refl

-- ---- limits

-- so many pointers, one over the other, to int
abbrev pointers : ℕ → CType
pointers zero = int
pointers (suc n) = pointer_to (pointers n)

-- void *q = d; where d is a function with a result of so many pointers
abbrev pointer_by_a_function : ℕ → Outcome Filled
pointer_by_a_function n = typed_initialiser (with_name here 1 None (codes "d") (function (pointers n) Open)) (record { of = pointer_to (basic Void); static = false; barred = false }) (expr (Name 1 (codes "d")))

value_of_a_less_deep_type : fault_of (pointer_by_a_function 497) ≡ None
unfolding fold fault_at init_fault
value_of_a_less_deep_type = refl

value_of_a_deep_type : fault_of (pointer_by_a_function 498) ≡ Some (Passes which.Depth 1)
unfolding fold fault_at init_fault
value_of_a_deep_type = refl

-- char c[][8388608] = {{1}, {2}};
greatest_array : fault_of (automatic (Array (Array (basic Char) (Some 8388608)) None) (list (list (n 1 ∷ []) ∷ list (n 2 ∷ []) ∷ []))) ≡ None
unfolding fold fault_at init_fault
greatest_array = refl

-- char c[][8388609] = {{1}, {2}};
too_large_an_array : fault_of (automatic (Array (Array (basic Char) (Some 8388609)) None) (list (list (n 1 ∷ []) ∷ list (n 2 ∷ []) ∷ []))) ≡ Some (Passes which.Object 1)
unfolding fold fault_at init_fault
too_large_an_array = refl
