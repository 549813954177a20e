-- Examples of the constraints on declarations.
use Rattle.std.specs.Prelude.{◌≡◌, refl, ℕ, codes, false, Some, None, List, [], ◌∷◌, ◌++◌}
use Rattle.c_ast.specs.declared.specifier.BasicType.TheVariants as word
use Rattle.c_ast.specs.declared.specifier.Qualifier.TheVariants as qualifier
use Rattle.c_ast.specs.declared.specifier.RecordKind.TheVariants as record_kind
use Rattle.c_ast.specs.declared.specifier.Storage.TheVariants as class
use Rattle.c_ast.specs.Trees.{Name, SizeofExpr, SizeofType, TypeNamed, NoDeclarator, Specified, Stored, Qualified, Basic, Record, RecordTag, Enum, EnumTag, Members, NoMembers, MoreMembers, Field, NoFields, Fields, Enumerator, NoEnumerators, Enumerators, NoExpr, AnExpr, ADeclarator, ByExpr, SpecifierTree, DeclarationTree}
use Rattle.c_meaning.specs.Constants.{fold}
use Rattle.c_meaning.specs.Constraints.{Breaks, fault_at}
use Rattle.c_meaning.specs.Laws.{fault_of}
use Rattle.c_meaning.specs.Samples.{outside}
use Rattle.c_meaning.specs.Initialising.{init_fault}
use Rattle.c_meaning.specs.Declarations.{decl_fault}
use Rattle.c_meaning.specs.DeclarationSamples.{row, below, parts, of_int, with_class, name, array, open_array, function, k, n, list, plain, set, one, of, is, again, set_again, structure, pointer, completing, file_fault, block_fault, nested, around}

-- ---- lines

-- int
-- x;
line_of_the_name : block_fault (below (of_int ∷ []) (name (codes "x")) None) ≡ Some (Breaks 5 2)
unfolding fold fault_at init_fault decl_fault
line_of_the_name = refl

-- int
-- k[];
line_of_the_object : block_fault (below (of_int ∷ []) (open_array k) None) ≡ Some (Breaks 16 2)
unfolding fold fault_at init_fault decl_fault
line_of_the_object = refl

-- register int
-- k;
line_of_the_specifiers : file_fault (below (with_class class.Register) (name k) None) ≡ Some (Breaks 3 1)
unfolding fold fault_at init_fault decl_fault
line_of_the_specifiers = refl

-- const
-- struct u
-- *k;
line_of_the_tag : block_fault (below (Qualified 1 qualifier.Const ∷ RecordTag 2 record_kind.Struct (codes "u") ∷ []) (pointer k) None) ≡ Some (Breaks 8 2)
unfolding fold fault_at init_fault decl_fault
line_of_the_tag = refl

-- struct u; where the tag has another line than the list
line_of_the_tag_alone : file_fault (one (RecordTag 2 record_kind.Struct (codes "u") ∷ []) []) ≡ Some (Breaks 8 2)
unfolding fold fault_at init_fault decl_fault
line_of_the_tag_alone = refl

-- int; in line 2
line_of_the_declaration : file_fault (row 2 (of_int ∷ []) [] ∷ []) ≡ Some (Breaks 4 2)
unfolding fold fault_at init_fault decl_fault
line_of_the_declaration = refl

-- ---- 3: storage classes

-- auto int k;
automatic_outside : file_fault (of (with_class class.Auto) (name k)) ≡ Some (Breaks 3 1)
unfolding fold fault_at init_fault decl_fault
automatic_outside = refl

-- register int k;
register_outside : file_fault (of (with_class class.Register) (name k)) ≡ Some (Breaks 3 1)
unfolding fold fault_at init_fault decl_fault
register_outside = refl

-- static int k;
static_outside : file_fault (of (with_class class.Static) (name k)) ≡ None
unfolding fold fault_at init_fault decl_fault
static_outside = refl

-- auto int k;
automatic_inside : block_fault (of (with_class class.Auto) (name k)) ≡ None
unfolding fold fault_at init_fault decl_fault
automatic_inside = refl

-- static int k();
static_function_inside : block_fault (of (with_class class.Static) (function k)) ≡ Some (Breaks 3 1)
unfolding fold fault_at init_fault decl_fault
static_function_inside = refl

-- extern int k();
external_function_inside : block_fault (of (with_class class.Extern) (function k)) ≡ None
unfolding fold fault_at init_fault decl_fault
external_function_inside = refl

-- int k();
function_inside : block_fault (of (of_int ∷ []) (function k)) ≡ None
unfolding fold fault_at init_fault decl_fault
function_inside = refl

-- typedef int k();
function_type_inside : block_fault (of (with_class class.Typedef) (function k)) ≡ None
unfolding fold fault_at init_fault decl_fault
function_type_inside = refl

-- static int k();
static_function_outside : file_fault (of (with_class class.Static) (function k)) ≡ None
unfolding fold fault_at init_fault decl_fault
static_function_outside = refl

-- static int x();
static_function_and_a_local : block_fault (of (with_class class.Static) (function (codes "x"))) ≡ Some (Breaks 3 1)
unfolding fold fault_at init_fault decl_fault
static_function_and_a_local = refl

-- ---- 4: declarations of nothing

-- int;
nothing_declared : file_fault (one (of_int ∷ []) []) ≡ Some (Breaks 4 1)
unfolding fold fault_at init_fault decl_fault
nothing_declared = refl

-- struct {int m;};
structure_without_a_tag : file_fault (one (Record 1 record_kind.Struct None (MoreMembers (Members 1 (Specified 1 (parts (of_int ∷ []))) (Fields (Field 1 (ADeclarator (name (codes "m"))) NoExpr) NoFields)) NoMembers) ∷ []) []) ≡ Some (Breaks 4 1)
unfolding fold fault_at init_fault decl_fault
structure_without_a_tag = refl

-- struct t {int m;};
structure_with_a_tag : file_fault (one (Record 1 record_kind.Struct (Some (codes "t")) (MoreMembers (Members 1 (Specified 1 (parts (of_int ∷ []))) (Fields (Field 1 (ADeclarator (name (codes "m"))) NoExpr) NoFields)) NoMembers) ∷ []) []) ≡ None
unfolding fold fault_at init_fault decl_fault
structure_with_a_tag = refl

-- struct t;
tag_alone : file_fault (one (structure (codes "t") ∷ []) []) ≡ None
unfolding fold fault_at init_fault decl_fault
tag_alone = refl

-- enum e;
enumeration_tag_alone : file_fault (one (EnumTag 1 (codes "e") ∷ []) []) ≡ None
unfolding fold fault_at init_fault decl_fault
enumeration_tag_alone = refl

-- enum {k};
enumerator_alone : file_fault (one (Enum 1 None (Enumerators (Enumerator 1 k NoExpr) NoEnumerators) false ∷ []) []) ≡ None
unfolding fold fault_at init_fault decl_fault
enumerator_alone = refl

-- ---- 5: names declared twice

-- int x; again
local_twice : block_fault (of (of_int ∷ []) (name (codes "x"))) ≡ Some (Breaks 5 1)
unfolding fold fault_at init_fault decl_fault
local_twice = refl

-- extern int x;
local_and_external : block_fault (of (with_class class.Extern) (name (codes "x"))) ≡ Some (Breaks 5 1)
unfolding fold fault_at init_fault decl_fault
local_and_external = refl

-- int k;
other_local : block_fault (of (of_int ∷ []) (name k)) ≡ None
unfolding fold fault_at init_fault decl_fault
other_local = refl

-- typedef int f;
function_and_type : file_fault (of (with_class class.Typedef) (name (codes "f"))) ≡ Some (Breaks 5 1)
unfolding fold fault_at init_fault decl_fault
function_and_type = refl

-- int first;
enumerator_and_object : file_fault (of (of_int ∷ []) (name (codes "first"))) ≡ Some (Breaks 5 1)
unfolding fold fault_at init_fault decl_fault
enumerator_and_object = refl

-- static int k; int k;
internal_then_external : file_fault (of (with_class class.Static) (name k) ++ again (of_int ∷ []) (name k)) ≡ Some (Breaks 5 2)
unfolding fold fault_at init_fault decl_fault
internal_then_external = refl

-- int k; static int k;
external_then_internal : file_fault (of (of_int ∷ []) (name k) ++ again (with_class class.Static) (name k)) ≡ Some (Breaks 5 2)
unfolding fold fault_at init_fault decl_fault
external_then_internal = refl

-- static int k; extern int k;
internal_stays_internal : file_fault (of (with_class class.Static) (name k) ++ again (with_class class.Extern) (name k)) ≡ None
unfolding fold fault_at init_fault decl_fault
internal_stays_internal = refl

-- static int k(); int k();
internal_function_stays_internal : file_fault (of (with_class class.Static) (function k) ++ again (of_int ∷ []) (function k)) ≡ None
unfolding fold fault_at init_fault decl_fault
internal_function_stays_internal = refl

-- int k(); static int k();
external_then_internal_function : file_fault (of (of_int ∷ []) (function k) ++ again (with_class class.Static) (function k)) ≡ Some (Breaks 5 2)
unfolding fold fault_at init_fault decl_fault
external_then_internal_function = refl

-- int k; int k;
object_twice : file_fault (of (of_int ∷ []) (name k) ++ again (of_int ∷ []) (name k)) ≡ None
unfolding fold fault_at init_fault decl_fault
object_twice = refl

-- typedef int k; typedef int k;
type_twice : file_fault (of (with_class class.Typedef) (name k) ++ again (with_class class.Typedef) (name k)) ≡ Some (Breaks 5 2)
unfolding fold fault_at init_fault decl_fault
type_twice = refl

-- static int k; extern int k;
static_local_and_external : block_fault (of (with_class class.Static) (name k) ++ again (with_class class.Extern) (name k)) ≡ Some (Breaks 5 2)
unfolding fold fault_at init_fault decl_fault
static_local_and_external = refl

-- static int k; { extern int k; }
internal_in_a_block : fault_of (nested outside (of (with_class class.Static) (name k) ∷ again (with_class class.Extern) (name k) ∷ [])) ≡ None
unfolding fold fault_at init_fault decl_fault
internal_in_a_block = refl

-- static int k; { int k; { extern int k; } }
internal_but_hidden : fault_of (nested outside (of (with_class class.Static) (name k) ∷ of (of_int ∷ []) (name k) ∷ again (with_class class.Extern) (name k) ∷ [])) ≡ Some (Breaks 5 2)
unfolding fold fault_at init_fault decl_fault
internal_but_hidden = refl

-- { extern int k; } static int k;
external_in_a_block_then_internal : fault_of (around outside (of (with_class class.Extern) (name k)) (again (with_class class.Static) (name k))) ≡ Some (Breaks 5 2)
unfolding fold fault_at init_fault decl_fault
external_in_a_block_then_internal = refl

-- { extern int k; } int k;
external_in_a_block_then_outside : fault_of (around outside (of (with_class class.Extern) (name k)) (again (of_int ∷ []) (name k))) ≡ None
unfolding fold fault_at init_fault decl_fault
external_in_a_block_then_outside = refl

-- static int k; char k;
other_linkage_and_type : file_fault (of (with_class class.Static) (name k) ++ again (Basic 1 word.Char ∷ []) (name k)) ≡ Some (Breaks 5 2)
unfolding fold fault_at init_fault decl_fault
other_linkage_and_type = refl

-- ---- 8: the tag of an enumeration is in force before its list

-- enum tag {name = sizeof(t)};
abbrev sized : List ℕ → List ℕ → SpecifierTree → List DeclarationTree
sized tag x t = one (Enum 1 (Some tag) (Enumerators (Enumerator 1 x (AnExpr (SizeofType 1 (TypeNamed 1 (Specified 1 (parts (t ∷ []))) NoDeclarator)))) NoEnumerators) false ∷ []) []

-- enum s {k = sizeof(enum s)}; in the function, where s is the tag of a structure outside
enumeration_in_its_own_list : block_fault (sized (codes "s") k (EnumTag 1 (codes "s"))) ≡ None
unfolding fold fault_at init_fault decl_fault
enumeration_in_its_own_list = refl

-- enum s {k = sizeof(struct s)};
structure_hidden_by_an_enumeration : block_fault (sized (codes "s") k (structure (codes "s"))) ≡ Some (Breaks 8 1)
unfolding fold fault_at init_fault decl_fault
structure_hidden_by_an_enumeration = refl

-- enum t *k; enum t {m = sizeof(enum t)};
enumeration_behind_its_tag : file_fault (of (EnumTag 1 (codes "t") ∷ []) (pointer k) ++ sized (codes "t") (codes "m") (EnumTag 1 (codes "t"))) ≡ None
unfolding fold fault_at init_fault decl_fault
enumeration_behind_its_tag = refl

-- enum t {k = sizeof(enum t {m})};
enumeration_twice_in_one_another : file_fault (sized (codes "t") k (Enum 1 (Some (codes "t")) (Enumerators (Enumerator 1 (codes "m") NoExpr) NoEnumerators) false)) ≡ Some (Breaks 8 1)
unfolding fold fault_at init_fault decl_fault
enumeration_twice_in_one_another = refl

-- enum e {k = sizeof(enum e)}; where the list of e has stood
enumeration_twice : file_fault (sized (codes "e") k (EnumTag 1 (codes "e"))) ≡ Some (Breaks 8 1)
unfolding fold fault_at init_fault decl_fault
enumeration_twice = refl

-- ---- 6: other types

-- int k; enum e k; enum {a} k;
two_enumerations_behind_int : file_fault (of (of_int ∷ []) (name k) ++ (of (EnumTag 1 (codes "e") ∷ []) (name k) ++ again (Enum 1 None (Enumerators (Enumerator 1 (codes "a") NoExpr) NoEnumerators) false ∷ []) (name k))) ≡ Some (Breaks 6 2)
unfolding fold fault_at init_fault decl_fault
two_enumerations_behind_int = refl

-- int k; enum e k; int k;
enumeration_between_ints : file_fault (of (of_int ∷ []) (name k) ++ (of (EnumTag 1 (codes "e") ∷ []) (name k) ++ again (of_int ∷ []) (name k))) ≡ None
unfolding fold fault_at init_fault decl_fault
enumeration_between_ints = refl

-- const int f();
function_of_other_result : file_fault (of (Qualified 1 qualifier.Const ∷ of_int ∷ []) (function (codes "f"))) ≡ Some (Breaks 6 1)
unfolding fold fault_at init_fault decl_fault
function_of_other_result = refl

-- const int f();
function_of_other_result_inside : block_fault (of (Qualified 1 qualifier.Const ∷ of_int ∷ []) (function (codes "f"))) ≡ Some (Breaks 6 1)
unfolding fold fault_at init_fault decl_fault
function_of_other_result_inside = refl

-- extern int k[]; { extern int k[3]; { extern int k[4]; } }
sizes_in_blocks : fault_of (nested outside (of (with_class class.Extern) (open_array k) ∷ of (with_class class.Extern) (array k 3) ∷ again (with_class class.Extern) (array k 4) ∷ [])) ≡ Some (Breaks 6 2)
unfolding fold fault_at init_fault decl_fault
sizes_in_blocks = refl

-- extern int k; { extern enum e k; extern enum e k; }
enumeration_in_a_block : fault_of (nested outside (of (with_class class.Extern) (name k) ∷ (of (Stored 1 class.Extern ∷ EnumTag 1 (codes "e") ∷ []) (name k) ++ again (Stored 1 class.Extern ∷ EnumTag 1 (codes "e") ∷ []) (name k)) ∷ [])) ≡ None
unfolding fold fault_at init_fault decl_fault
enumeration_in_a_block = refl

-- extern int k; { extern enum e k; extern enum {a} k; }
two_enumerations_in_a_block : fault_of (nested outside (of (with_class class.Extern) (name k) ∷ (of (Stored 1 class.Extern ∷ EnumTag 1 (codes "e") ∷ []) (name k) ++ again (Stored 1 class.Extern ∷ Enum 1 None (Enumerators (Enumerator 1 (codes "a") NoExpr) NoEnumerators) false ∷ []) (name k)) ∷ [])) ≡ Some (Breaks 6 2)
unfolding fold fault_at init_fault decl_fault
two_enumerations_in_a_block = refl

-- int f();
function_without_parameters_given : file_fault (of (of_int ∷ []) (function (codes "f"))) ≡ None
unfolding fold fault_at init_fault decl_fault
function_without_parameters_given = refl

-- int f;
function_as_object : file_fault (of (of_int ∷ []) (name (codes "f"))) ≡ Some (Breaks 6 1)
unfolding fold fault_at init_fault decl_fault
function_as_object = refl

-- int k[2]; int k[3];
array_of_another_size : file_fault (of (of_int ∷ []) (array k 2) ++ again (of_int ∷ []) (array k 3)) ≡ Some (Breaks 6 2)
unfolding fold fault_at init_fault decl_fault
array_of_another_size = refl

-- int k[]; int k[3];
array_of_unknown_size : file_fault (of (of_int ∷ []) (open_array k) ++ again (of_int ∷ []) (array k 3)) ≡ None
unfolding fold fault_at init_fault decl_fault
array_of_unknown_size = refl

-- extern int k; extern const int k;
other_qualifiers : file_fault (of (with_class class.Extern) (name k) ++ again (Stored 1 class.Extern ∷ Qualified 1 qualifier.Const ∷ of_int ∷ []) (name k)) ≡ Some (Breaks 6 2)
unfolding fold fault_at init_fault decl_fault
other_qualifiers = refl

-- extern int number[];
other_than_a_block_declared : block_fault (of (with_class class.Extern) (open_array (codes "number"))) ≡ Some (Breaks 6 1)
unfolding fold fault_at init_fault decl_fault
other_than_a_block_declared = refl

-- char number;
local_of_another_type : block_fault (of (Basic 1 word.Char ∷ []) (name (codes "number"))) ≡ None
unfolding fold fault_at init_fault decl_fault
local_of_another_type = refl

-- extern int number;
as_a_block_declared : block_fault (of (with_class class.Extern) (name (codes "number"))) ≡ None
unfolding fold fault_at init_fault decl_fault
as_a_block_declared = refl

-- int k[] = {1, 2}; int k[3];
another_size_than_by_a_list : file_fault (is (of_int ∷ []) (open_array k) (list (n 1 ∷ n 2 ∷ [])) ++ again (of_int ∷ []) (array k 3)) ≡ Some (Breaks 6 2)
unfolding fold fault_at init_fault decl_fault
another_size_than_by_a_list = refl

-- int k[] = {1, 2}; { extern int k[3]; }
another_size_in_a_block : fault_of (nested outside (is (of_int ∷ []) (open_array k) (list (n 1 ∷ n 2 ∷ [])) ∷ again (with_class class.Extern) (array k 3) ∷ [])) ≡ Some (Breaks 6 2)
unfolding fold fault_at init_fault decl_fault
another_size_in_a_block = refl

-- { extern int k[3]; } int k[] = {1, 2};
size_by_a_list : fault_of (around outside (of (with_class class.Extern) (array k 3)) (set_again (of_int ∷ []) (open_array k) (list (n 1 ∷ n 2 ∷ [])))) ≡ Some (Breaks 6 2)
unfolding fold fault_at init_fault decl_fault
size_by_a_list = refl

-- { extern int k[2]; } int k[] = {1, 2};
same_size_by_a_list : fault_of (around outside (of (with_class class.Extern) (array k 2)) (set_again (of_int ∷ []) (open_array k) (list (n 1 ∷ n 2 ∷ [])))) ≡ None
unfolding fold fault_at init_fault decl_fault
same_size_by_a_list = refl

-- ---- 7: definitions

-- int k = 1; int k = 2;
defined_twice : file_fault (is (of_int ∷ []) (name k) (n 1) ++ set_again (of_int ∷ []) (name k) (n 2)) ≡ Some (Breaks 7 2)
unfolding fold fault_at init_fault decl_fault
defined_twice = refl

-- int k = 1; int k;
defined_and_declared : file_fault (is (of_int ∷ []) (name k) (n 1) ++ again (of_int ∷ []) (name k)) ≡ None
unfolding fold fault_at init_fault decl_fault
defined_and_declared = refl

-- int k; int k = 1;
tentative_and_defined : file_fault (of (of_int ∷ []) (name k) ++ set_again (of_int ∷ []) (name k) (n 1)) ≡ None
unfolding fold fault_at init_fault decl_fault
tentative_and_defined = refl

-- int k = 1; int k; int k = 2;
defined_tentative_and_defined : file_fault (is (of_int ∷ []) (name k) (n 1) ++ (of (of_int ∷ []) (name k) ++ set_again (of_int ∷ []) (name k) (n 2))) ≡ Some (Breaks 7 2)
unfolding fold fault_at init_fault decl_fault
defined_tentative_and_defined = refl

-- int k = 1; { int k = 2; }
defined_and_a_local : fault_of (nested outside (is (of_int ∷ []) (name k) (n 1) ∷ set_again (of_int ∷ []) (name k) (n 2) ∷ [])) ≡ None
unfolding fold fault_at init_fault decl_fault
defined_and_a_local = refl

-- ---- 8: tags alone

-- struct u;
other_tag_alone : file_fault (one (structure (codes "u") ∷ []) []) ≡ Some (Breaks 8 1)
unfolding fold fault_at init_fault decl_fault
other_tag_alone = refl

-- struct u;
new_tag_alone : block_fault (one (structure (codes "u") ∷ []) []) ≡ None
unfolding fold fault_at init_fault decl_fault
new_tag_alone = refl

-- struct s; struct s k;
tag_alone_is_a_new_one : block_fault (one (structure (codes "s") ∷ []) [] ++ again (structure (codes "s") ∷ []) (name k)) ≡ Some (Breaks 16 2)
unfolding fold fault_at init_fault decl_fault
tag_alone_is_a_new_one = refl

-- const struct s; struct s k;
tag_with_a_qualifier_is_none : block_fault (one (Qualified 1 qualifier.Const ∷ structure (codes "s") ∷ []) [] ++ again (structure (codes "s") ∷ []) (name k)) ≡ None
unfolding fold fault_at init_fault decl_fault
tag_with_a_qualifier_is_none = refl

-- struct s; struct s k;
tag_alone_in_its_scope : file_fault (one (structure (codes "s") ∷ []) [] ++ is (structure (codes "s") ∷ []) (name k) (list (n 1 ∷ []))) ≡ None
unfolding fold fault_at init_fault decl_fault
tag_alone_in_its_scope = refl

-- struct u *k;
other_tag_with_a_name : block_fault (one (structure (codes "u") ∷ []) (plain (pointer k) ∷ [])) ≡ Some (Breaks 8 1)
unfolding fold fault_at init_fault decl_fault
other_tag_with_a_name = refl

-- ---- 16: incomplete objects

-- struct open k;
incomplete_structure : block_fault (of (structure (codes "open") ∷ []) (name k)) ≡ Some (Breaks 16 1)
unfolding fold fault_at init_fault decl_fault
incomplete_structure = refl

-- extern struct open k;
incomplete_external : block_fault (of (Stored 1 class.Extern ∷ structure (codes "open") ∷ []) (name k)) ≡ None
unfolding fold fault_at init_fault decl_fault
incomplete_external = refl

-- typedef struct open k;
incomplete_type : block_fault (of (Stored 1 class.Typedef ∷ structure (codes "open") ∷ []) (name k)) ≡ None
unfolding fold fault_at init_fault decl_fault
incomplete_type = refl

-- struct s k;
complete_structure : block_fault (of (structure (codes "s") ∷ []) (name k)) ≡ None
unfolding fold fault_at init_fault decl_fault
complete_structure = refl

-- int k[];
array_without_size : block_fault (of (of_int ∷ []) (open_array k)) ≡ Some (Breaks 16 1)
unfolding fold fault_at init_fault decl_fault
array_without_size = refl

-- static int k[];
static_array_without_size : block_fault (of (with_class class.Static) (open_array k)) ≡ Some (Breaks 16 1)
unfolding fold fault_at init_fault decl_fault
static_array_without_size = refl

-- int k[] = {1};
array_completed : block_fault (is (of_int ∷ []) (open_array k) (list (n 1 ∷ []))) ≡ None
unfolding fold fault_at init_fault decl_fault
array_completed = refl

-- void k;
void_object : block_fault (of (Basic 1 word.Void ∷ []) (name k)) ≡ Some (Breaks 16 1)
unfolding fold fault_at init_fault decl_fault
void_object = refl

-- struct open k;
tentative_structure : file_fault (of (structure (codes "open") ∷ []) (name k)) ≡ None
unfolding fold fault_at init_fault decl_fault
tentative_structure = refl

-- int k[];
tentative_array : file_fault (of (of_int ∷ []) (open_array k)) ≡ None
unfolding fold fault_at init_fault decl_fault
tentative_array = refl

-- ---- 24: objects with static storage

-- int k; int m = k;
object_outside_by_a_variable : file_fault (of (of_int ∷ []) (name k) ++ set_again (of_int ∷ []) (name (codes "m")) (ByExpr 2 (Name 2 k))) ≡ Some (Breaks 24 2)
unfolding fold fault_at init_fault decl_fault
object_outside_by_a_variable = refl

-- static int k = x;
static_local_by_a_variable : block_fault (is (with_class class.Static) (name k) (ByExpr 1 (Name 1 (codes "x")))) ≡ Some (Breaks 24 1)
unfolding fold fault_at init_fault decl_fault
static_local_by_a_variable = refl

-- int k = x;
local_by_a_variable : block_fault (is (of_int ∷ []) (name k) (ByExpr 1 (Name 1 (codes "x")))) ≡ None
unfolding fold fault_at init_fault decl_fault
local_by_a_variable = refl

-- ---- 22 and 27: where no initialiser stands

-- typedef int k = 1;
type_initialised : file_fault (is (with_class class.Typedef) (name k) (n 1)) ≡ Some (Breaks 22 1)
unfolding fold fault_at init_fault decl_fault
type_initialised = refl

-- typedef int k() = 1;
function_type_initialised : file_fault (is (with_class class.Typedef) (function k) (n 1)) ≡ Some (Breaks 22 1)
unfolding fold fault_at init_fault decl_fault
function_type_initialised = refl

-- extern int number = 1;
external_initialised_inside : block_fault (is (with_class class.Extern) (name (codes "number")) (n 1)) ≡ Some (Breaks 22 1)
unfolding fold fault_at init_fault decl_fault
external_initialised_inside = refl

-- extern int k = 1;
external_initialised_outside : file_fault (is (with_class class.Extern) (name k) (n 1)) ≡ None
unfolding fold fault_at init_fault decl_fault
external_initialised_outside = refl

-- int k() = 1;
function_initialised : file_fault (is (of_int ∷ []) (function k) (n 1)) ≡ Some (Breaks 27 1)
unfolding fold fault_at init_fault decl_fault
function_initialised = refl

-- struct open k = {sizeof(struct open {int m;})};
completed_by_its_list : file_fault (is (structure (codes "open") ∷ []) (name k) (list (ByExpr 1 (SizeofType 1 (TypeNamed 1 (Specified 1 (parts (completing ∷ []))) NoDeclarator)) ∷ []))) ≡ Some (Breaks 27 1)
unfolding fold fault_at init_fault decl_fault
completed_by_its_list = refl

-- struct open k = sizeof(struct open {int m;});
completed_by_its_expression : file_fault (is (structure (codes "open") ∷ []) (name k) (ByExpr 1 (SizeofType 1 (TypeNamed 1 (Specified 1 (parts (completing ∷ []))) NoDeclarator)))) ≡ Some (Breaks 27 1)
unfolding fold fault_at init_fault decl_fault
completed_by_its_expression = refl

-- int k[2] = {1, 2, 3}, k = 1;
in_their_order : file_fault (one (of_int ∷ []) (set (array k 2) (list (n 1 ∷ n 2 ∷ n 3 ∷ [])) ∷ set (name k) (n 1) ∷ [])) ≡ Some (Breaks 23 1)
unfolding fold fault_at init_fault decl_fault
in_their_order = refl

-- int k = sizeof k;
name_is_in_force : file_fault (is (of_int ∷ []) (name k) (ByExpr 1 (SizeofExpr 1 (Name 1 k)))) ≡ None
unfolding fold fault_at init_fault decl_fault
name_is_in_force = refl
