-- Examples of what declarations declare, and of what is known behind them.
use Rattle.std.specs.Prelude.{◌≡◌, refl, pos, codes, true, false, Some, None, [], ◌∷◌, ◌++◌, length}
use Rattle.c_ast.specs.declared.specifier.BasicType.TheVariants as word
use Rattle.c_ast.specs.declared.specifier.Qualifier.TheVariants as qualifier
use Rattle.c_ast.specs.declared.specifier.Storage.TheVariants as class
use Rattle.c_ast.specs.Trees.{Text, Qualified, Basic, ByExpr, Braced}
use Rattle.c_symbols.specs.declared.symbol.Storage.TheVariants as storage
use Rattle.c_types.specs.CType.{Array, Open}
use Rattle.c_meaning.specs.declared.core_expr.CoreKind.TheVariants as kind
use Rattle.c_meaning.specs.CoreTrees.{Core, none}
use Rattle.c_meaning.specs.State.{link_or_next}
use Rattle.c_meaning.specs.Constants.{fold}
use Rattle.c_meaning.specs.Constraints.{Breaks, fault_at}
use Rattle.c_meaning.specs.Samples.{sample, outside, int}
use Rattle.c_meaning.specs.Samples as samples
use Rattle.c_meaning.specs.Initialising.{init_fault}
use Rattle.c_meaning.specs.Declarations.{decl_fault}
use Rattle.c_meaning.specs.DeclarationSamples.{below, of_int, with_class, name, array, open_array, function, k, n, items, list, plain, set, one, of, is, again, set_again, structure, all_typed, block, file_fault, nested, around, known_behind, type_behind, defined_behind, objects_in, names_of, lines_of, constants_of, locals_in, linked_in, symbols_in, begun_in}

-- ---- names

-- typedef int k;
known_as_a_type : known_behind k (all_typed block (of (with_class class.Typedef) (name k))) ≡ Some (record { class = storage.Typedef; of = int; line = 1; level = 1; value = None })
unfolding fold fault_at init_fault decl_fault
known_as_a_type = refl

-- static int k;
known_as_static : known_behind k (all_typed block (of (with_class class.Static) (name k))) ≡ Some (record { class = storage.Static; of = int; line = 1; level = 1; value = None })
unfolding fold fault_at init_fault decl_fault
known_as_static = refl

-- int
-- k;
known_from_its_declaration : known_behind k (all_typed block (below (of_int ∷ []) (name k) None)) ≡ Some (record { class = storage.Auto; of = int; line = 1; level = 1; value = Some (pos 2) })
unfolding fold fault_at init_fault decl_fault
known_from_its_declaration = refl

-- int m; int k;
known_as_a_local : known_behind k (all_typed block (of (of_int ∷ []) (name (codes "m")) ++ again (of_int ∷ []) (name k))) ≡ Some (record { class = storage.Auto; of = int; line = 2; level = 1; value = Some (pos 3) })
unfolding fold fault_at init_fault decl_fault
known_as_a_local = refl

-- register int k;
known_as_a_register : known_behind k (all_typed block (of (with_class class.Register) (name k))) ≡ Some (record { class = storage.Register; of = int; line = 1; level = 1; value = Some (pos 2) })
unfolding fold fault_at init_fault decl_fault
known_as_a_register = refl

-- static int k;
known_as_internal : known_behind k (all_typed outside (of (with_class class.Static) (name k))) ≡ Some (record { class = storage.Static; of = int; line = 1; level = 0; value = Some (pos (link_or_next outside k)) })
unfolding fold fault_at init_fault decl_fault
known_as_internal = refl

-- extern int f(); in the function
known_as_external : known_behind (codes "f") (all_typed block (of (with_class class.Extern) (function (codes "f")))) ≡ Some (record { class = storage.Extern; of = samples.function int Open; line = 1; level = 1; value = Some (pos (link_or_next outside (codes "f"))) })
unfolding fold fault_at init_fault decl_fault
known_as_external = refl

-- ---- definitions

-- extern int k;
not_defined : defined_behind k (all_typed outside (of (with_class class.Extern) (name k))) ≡ None
unfolding fold fault_at init_fault decl_fault
not_defined = refl

-- int k;
tentatively_defined : defined_behind k (all_typed outside (of (of_int ∷ []) (name k))) ≡ Some (pos 0)
unfolding fold fault_at init_fault decl_fault
tentatively_defined = refl

-- extern int k = 1;
defined_by_an_initialiser : defined_behind k (all_typed outside (is (with_class class.Extern) (name k) (n 1))) ≡ Some (pos 1)
unfolding fold fault_at init_fault decl_fault
defined_by_an_initialiser = refl

-- int k(); in both scopes
function_not_defined : defined_behind k (nested outside (of (of_int ∷ []) (function k) ∷ again (of_int ∷ []) (function k) ∷ [])) ≡ None
unfolding fold fault_at init_fault decl_fault
function_not_defined = refl

-- ---- types

-- extern int k[3]; int k[] = {1, 2, 3, 4};
composite_gives_the_size : file_fault (of (with_class class.Extern) (array k 3) ++ set_again (of_int ∷ []) (open_array k) (Braced 2 (items (n 1 ∷ n 2 ∷ n 3 ∷ n 4 ∷ [])) false)) ≡ Some (Breaks 23 2)
unfolding fold fault_at init_fault decl_fault
composite_gives_the_size = refl

-- int k[]; int k[3];
composite_behind : type_behind k (all_typed outside (of (of_int ∷ []) (open_array k) ++ again (of_int ∷ []) (array k 3))) ≡ Some (Array int (Some 3))
unfolding fold fault_at init_fault decl_fault
composite_behind = refl

-- extern int k[3]; { extern int k[]; }
composite_in_its_scope_alone : type_behind k (nested outside (of (with_class class.Extern) (array k 3) ∷ again (with_class class.Extern) (open_array k) ∷ [])) ≡ Some (Array int None)
unfolding fold fault_at init_fault decl_fault
composite_in_its_scope_alone = refl

-- int k[] = {1, 2};
completed_behind : type_behind k (all_typed outside (is (of_int ∷ []) (open_array k) (list (n 1 ∷ n 2 ∷ [])))) ≡ Some (Array int (Some 2))
unfolding fold fault_at init_fault decl_fault
completed_behind = refl

-- int k[] = {1, 2};
completed_inside : type_behind k (all_typed block (is (of_int ∷ []) (open_array k) (list (n 1 ∷ n 2 ∷ [])))) ≡ Some (Array int (Some 2))
unfolding fold fault_at init_fault decl_fault
completed_inside = refl

-- ---- objects

-- int k = 1, m;
defined_objects : names_of (objects_in (all_typed outside (one (of_int ∷ []) (set (name k) (n 1) ∷ plain (name (codes "m")) ∷ [])))) ≡ k ∷ []
unfolding fold fault_at init_fault decl_fault
defined_objects = refl

-- int k = 1; with the symbol of all its declarations
symbol_of_a_linked_object : symbols_in (all_typed outside (one (of_int ∷ []) (set (name k) (n 1) ∷ []))) ≡ link_or_next outside k ∷ []
unfolding fold fault_at init_fault decl_fault
symbol_of_a_linked_object = refl

-- static int k; in the function, with its own
symbol_of_a_static_object : symbols_in (all_typed block (of (with_class class.Static) (name k))) ≡ length block.symbols ∷ []
unfolding fold fault_at init_fault decl_fault
symbol_of_a_static_object = refl

-- extern int k[];
-- extern int k[2];
each_declaration : linked_in (all_typed outside (of (with_class class.Extern) (open_array k) ++ again (with_class class.Extern) (array k 2))) ≡ record { symbol = link_or_next outside k; of = Array int None; line = 1 } ∷ record { symbol = link_or_next outside k; of = Array int (Some 2); line = 2 } ∷ []
unfolding fold fault_at init_fault decl_fault
each_declaration = refl

-- int k; in the function
no_linked_name : linked_in (all_typed block (of (of_int ∷ []) (name k))) ≡ []
unfolding fold fault_at init_fault decl_fault
no_linked_name = refl

-- const int k = 1;
constant_object : objects_in (all_typed outside (is (Qualified 1 qualifier.Const ∷ of_int ∷ []) (name k) (n 1))) ≡ record { name = k; of = samples.const int; line = 1; constant = true; places = record { of = samples.const int; offset = 0; first = 0; width = 0; value = Core (kind.Number 1) int 1 none } ∷ [] } ∷ []
unfolding fold fault_at init_fault decl_fault
constant_object = refl

-- const int k[1] = {1};
constant_array : constants_of (objects_in (all_typed outside (is (Qualified 1 qualifier.Const ∷ of_int ∷ []) (array k 1) (list (n 1 ∷ []))))) ≡ true ∷ []
unfolding fold fault_at init_fault decl_fault
constant_array = refl

-- const struct fixed k = {1};
constant_structure : constants_of (objects_in (all_typed outside (is (Qualified 1 qualifier.Const ∷ structure (codes "fixed") ∷ []) (name k) (list (n 1 ∷ []))))) ≡ true ∷ []
unfolding fold fault_at init_fault decl_fault
constant_structure = refl

-- struct fixed k = {1}; whose member is const
structure_of_a_constant_member : constants_of (objects_in (all_typed outside (is (structure (codes "fixed") ∷ []) (name k) (list (n 1 ∷ []))))) ≡ false ∷ []
unfolding fold fault_at init_fault decl_fault
structure_of_a_constant_member = refl

-- int k = 1;
object_that_may_change : objects_in (all_typed outside (is (of_int ∷ []) (name k) (n 1))) ≡ record { name = k; of = int; line = 1; constant = false; places = record { of = int; offset = 0; first = 0; width = 0; value = Core (kind.Number 1) int 1 none } ∷ [] } ∷ []
unfolding fold fault_at init_fault decl_fault
object_that_may_change = refl

-- extern int k; int k = 1;
line_of_the_first_declaration : lines_of (objects_in (all_typed outside (of (with_class class.Extern) (name k) ++ set_again (of_int ∷ []) (name k) (n 1)))) ≡ 1 ∷ []
unfolding fold fault_at init_fault decl_fault
line_of_the_first_declaration = refl

-- int
-- k = 1;
line_of_the_declaration : lines_of (objects_in (all_typed outside (below (of_int ∷ []) (name k) (Some (n 1))))) ≡ 1 ∷ []
unfolding fold fault_at init_fault decl_fault
line_of_the_declaration = refl

-- static int
-- k;
line_of_the_declaration_inside : lines_of (objects_in (all_typed block (below (with_class class.Static) (name k) None))) ≡ 1 ∷ []
unfolding fold fault_at init_fault decl_fault
line_of_the_declaration_inside = refl

-- static int k;
static_local : names_of (objects_in (all_typed block (of (with_class class.Static) (name k)))) ≡ k ∷ []
unfolding fold fault_at init_fault decl_fault
static_local = refl

-- int k = 1, m[2];
locals : locals_in (all_typed block (one (of_int ∷ []) (set (name k) (n 1) ∷ plain (array (codes "m") 2) ∷ []))) ≡ int ∷ Array int (Some 2) ∷ []
unfolding fold fault_at init_fault decl_fault
locals = refl

-- typedef int k;
type_is_no_local : locals_in (all_typed block (of (with_class class.Typedef) (name k))) ≡ []
unfolding fold fault_at init_fault decl_fault
type_is_no_local = refl

-- int k, m[2] = {1};
locals_begin : begun_in (all_typed block (one (of_int ∷ []) (plain (name k) ∷ set (array (codes "m") 2) (list (n 1 ∷ [])) ∷ []))) ≡ record { local = 3; zero = true; places = 1 } ∷ []
unfolding fold fault_at init_fault decl_fault
locals_begin = refl

-- int k = 1;
scalar_begins_by_a_number : begun_in (all_typed block (is (of_int ∷ []) (name k) (n 1))) ≡ record { local = 2; zero = false; places = 1 } ∷ []
unfolding fold fault_at init_fault decl_fault
scalar_begins_by_a_number = refl

-- struct s k = {1, 2};
structure_begins : begun_in (all_typed block (is (structure (codes "s") ∷ []) (name k) (list (n 1 ∷ n 2 ∷ [])))) ≡ record { local = 2; zero = true; places = 2 } ∷ []
unfolding fold fault_at init_fault decl_fault
structure_begins = refl

-- char k[6] = "ab";
string_begins : begun_in (all_typed block (is (Basic 1 word.Char ∷ []) (array k 6) (ByExpr 1 (Text 1 (codes "ab" ∷ []))))) ≡ record { local = 2; zero = true; places = 1 } ∷ []
unfolding fold fault_at init_fault decl_fault
string_begins = refl

-- int k = {1};
scalar_begins : begun_in (all_typed block (is (of_int ∷ []) (name k) (list (n 1 ∷ [])))) ≡ record { local = 2; zero = false; places = 1 } ∷ []
unfolding fold fault_at init_fault decl_fault
scalar_begins = refl

-- { int k; } int m = 1;
locals_behind_a_block : begun_in (around block (of (of_int ∷ []) (name k)) (is (of_int ∷ []) (name (codes "m")) (n 1))) ≡ record { local = 3; zero = false; places = 1 } ∷ []
unfolding fold fault_at init_fault decl_fault
locals_behind_a_block = refl
