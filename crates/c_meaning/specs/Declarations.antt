-- Declarations: their nodes, the constraints on these, and what they declare, part by part.
-- Source: C89 3.5, 3.7.2, in the profile of this compiler.
use Rattle.std.specs.Prelude.{ℕ, suc, ℤ, pos, ◌&&◌, ◌||◌, not, Bool, true, false, Option, Some, None, List, [], ◌∷◌, ◌++◌, is_some, if◌then◌else◌}
use Rattle.c_ast.specs.declared.specifier.Storage.{Storage as StorageClass}
use Rattle.c_ast.specs.declared.specifier.Storage.TheVariants as class
use Rattle.c_ast.specs.declared.specifier.RecordKind.{RecordKind}
use Rattle.c_ast.specs.Trees.{InitialiserTree, ByExpr, Braced}
use Rattle.c_symbols.specs.Scoping.{symbol_named}
use Rattle.c_types.specs.CType.{CType}
use Rattle.c_types.specs.Compatible.{compatible}
use Rattle.c_types.specs.Constness.{is_const}
use Rattle.c_meaning.specs.StmtTrees.{FilledOf, StmtOf, Initialise}
use Rattle.c_meaning.specs.Units.{ObjectTree}
use Rattle.c_meaning.specs.State.{State, place_here, known_at, replaced}
use Rattle.c_meaning.specs.Types.{is_function, is_array, is_scalar, has_size}
use Rattle.c_meaning.specs.TypeRows.{tag_key}
use Rattle.c_meaning.specs.TypeConstraints.{is_other_record}
use Rattle.c_meaning.specs.Constraints.{Fault, broken_or}
use Rattle.c_meaning.specs.NodeConstraints.{ConstraintOn, on, first_of}
use Rattle.c_meaning.specs.Linkage.{Linkage, Internal, External, linkage_at, class_linkage, is_linked, is_outside, composed, with_type, with_value}
use Rattle.c_meaning.specs.Initialising.{Filled}

-- ---- nodes

-- a declared name: the storage class that it is declared with, its type and its linkage
pub record Naming : Type 0 where
  pub class : Option StorageClass
  pub name : List ℕ
  pub of : CType
  pub linkage : Linkage

pub data DeclNode : Type 0 where
  -- a tag that stands alone in a declaration, as in `struct s;`
  AloneTag : (kind : RecordKind) (tag : List ℕ) → DeclNode
  -- the specifiers of a declaration at file scope
  Outside : (classes : List StorageClass) → DeclNode
  -- the declarator of a declared name
  Name : (n : Naming) → DeclNode
  -- a declared name behind its initialiser, if it has one, which may have completed its type
  Whole : (n : Naming) (initialised : Bool) → DeclNode
  -- a declaration, and whether it declares a name, a tag or an enumerator
  Declaration : (declares : Bool) → DeclNode

-- ---- constraints

abbrev pub is_inner_class : List StorageClass → Bool
is_inner_class (class.Auto ∷ cs) = true
is_inner_class (class.Register ∷ cs) = true
is_inner_class cs = false

abbrev pub is_function_class : Option StorageClass → Bool
is_function_class None = true
is_function_class (Some class.Extern) = true
is_function_class (Some class.Typedef) = true
is_function_class c = false

-- 3: `auto` or `register` at file scope; another than `extern` on a block's function
abbrev pub has_inner_class : State → DeclNode → Bool
has_inner_class s (Outside classes) = is_inner_class classes
has_inner_class s (Name n) = not (is_outside s) && (is_function n.of && not (is_function_class n.class))
has_inner_class s n = false

-- 4: a declaration declares no declarator, tag or enumerator
abbrev pub declares_nothing : State → DeclNode → Bool
declares_nothing s (Declaration declares) = not declares
declares_nothing s n = false

-- the scope has the name, and one of both declarations has no linkage
abbrev pub is_again : State → Linkage → Option ℕ → Bool
is_again s l None = false
is_again s l (Some id) = not (is_linked l && is_linked (linkage_at s (Some id)))

abbrev pub differs : Linkage → Linkage → Bool
differs Internal External = true
differs External Internal = true
differs l m = false

-- it was declared with the other linkage
abbrev pub has_other_linkage : State → Linkage → Option ℕ → Bool
has_other_linkage s l None = false
has_other_linkage s l (Some id) = differs l (class_linkage (known_at s id).class)

-- 5: a name without linkage is declared twice in a scope, or with two meanings
abbrev pub is_declared_again : State → DeclNode → Bool
is_declared_again s (Name n) = is_again s n.linkage (place_here s n.name) || has_other_linkage s n.linkage (symbol_named s.links n.name)
is_declared_again s n = false

abbrev pub differs_from : State → CType → Option ℕ → Bool
differs_from s of None = false
differs_from s of (Some id) = not (compatible of (known_at s id).of)

abbrev pub is_linked_otherwise : State → Naming → Bool
is_linked_otherwise s n =
    is_linked n.linkage && (differs_from s n.of (place_here s n.name) || differs_from s n.of (symbol_named s.links n.name))

-- 6: declarations of one linked name have types that aren't compatible: with those of its scope, and with all. An array of unknown
-- size has its type completed behind its initialiser (C89 3.5.7), and it is asked again there.
abbrev pub is_declared_otherwise : State → DeclNode → Bool
is_declared_otherwise s (Name n) = is_linked_otherwise s n
is_declared_otherwise s (Whole n initialised) = is_linked_otherwise s n
is_declared_otherwise s n = false

-- what the symbol of all declarations tells: 1 where the name is defined
abbrev pub is_definition : Option ℤ → Bool
is_definition (Some (pos (suc n))) = true
is_definition v = false

abbrev pub is_defined : State → Option ℕ → Bool
is_defined s None = false
is_defined s (Some id) = is_definition (known_at s id).value

-- 7: an initialised object is defined twice
abbrev pub is_defined_twice : State → DeclNode → Bool
is_defined_twice s (Whole n initialised) = initialised && (is_linked n.linkage && is_defined s (symbol_named s.links n.name))
is_defined_twice s n = false

-- 8: a tag is used as another kind: one that stands alone means the innermost scope's
abbrev pub is_other_kind : State → DeclNode → Bool
is_other_kind s (AloneTag k tag) = is_other_record s k (place_here s (tag_key tag))
is_other_kind s n = false

abbrev pub is_typedef : Option StorageClass → Bool
is_typedef (Some class.Typedef) = true
is_typedef c = false

-- The declaration is the object's definition: with an initialiser, and where the name has no linkage. At file scope one
-- without an initialiser is tentative.
abbrev pub defines : Naming → Bool → Bool
defines n initialised = not (is_typedef n.class || is_function n.of) && (initialised || not (is_linked n.linkage))

-- 16: an object that is defined has incomplete type
abbrev pub is_incomplete : State → DeclNode → Bool
is_incomplete s (Whole n initialised) = defines n initialised && not (has_size s.tags n.of)
is_incomplete s n = false

-- all of them, smaller numbers first
abbrev pub decl_constraints : List (ConstraintOn DeclNode)
decl_constraints =
    on 3 has_inner_class ∷
    on 4 declares_nothing ∷
    on 5 is_declared_again ∷
    on 6 is_declared_otherwise ∷
    on 7 is_defined_twice ∷
    on 8 is_other_kind ∷
    on 16 is_incomplete ∷ []

unfoldable pub decl_fault : State → ℕ → DeclNode → Option Fault
decl_fault s line n = broken_or line (first_of decl_constraints s n) None

-- ---- what is declared

-- An object with static storage that is defined, and the symbol that it is named by: that of its declaration, or of all
-- declarations of its name where it has linkage.
pub record Defined : Type 0 where
  pub symbol : ℕ
  pub object : ObjectTree

-- One declaration of a name with linkage: the symbol of all its declarations, the type that it is given here, and the line.
pub record Linked : Type 0 where
  pub symbol : ℕ
  pub of : CType
  pub line : ℕ

-- Objects with static storage that are defined; the types of local objects, the next of the function; what these begin with; and
-- the names with linkage.
pub record Declares : Type 0 where
  pub objects : List Defined
  pub locals : List CType
  pub fills : List (StmtOf CType)
  pub linked : List Linked

abbrev pub nothing : Declares
nothing = record { objects = []; locals = []; fills = []; linked = [] }

abbrev pub together : Declares → Declares → Declares
together a b =
    record {
      objects = a.objects ++ b.objects;
      locals = a.locals ++ b.locals;
      fills = a.fills ++ b.fills;
      linked = a.linked ++ b.linked;
    }

abbrev pub places_of : Option Filled → List (FilledOf CType)
places_of None = []
places_of (Some f) = f.places

abbrev pub object : ℕ → ℕ → Naming → Option Filled → Defined
object id line n f =
    record {
      symbol = id;
      object = record { name = n.name; of = n.of; line = line; constant = is_const n.of; places = places_of f };
    }

abbrev pub one_object : Defined → Declares
one_object o = record { objects = o ∷ []; locals = []; fills = []; linked = [] }

-- An array or structure that has a list, and an array that has a string, becomes zero as a whole first.
abbrev pub is_zeroed : CType → Option InitialiserTree → Bool
is_zeroed of None = false
is_zeroed of (Some (Braced line items comma)) = not (is_scalar of)
is_zeroed of (Some (ByExpr line e)) = is_array of

abbrev pub fills_of : ℕ → CType → Option InitialiserTree → Option Filled → List (StmtOf CType)
fills_of place of i None = []
fills_of place of i (Some f) = Initialise place (is_zeroed of i) f.places ∷ []

abbrev pub local : ℕ → CType → Option InitialiserTree → Option Filled → Declares
local place of i f = record { objects = []; locals = of ∷ []; fills = fills_of place of i f; linked = [] }

abbrev pub is_static : Option StorageClass → Bool
is_static (Some class.Static) = true
is_static c = false

abbrev pub line_at : State → ℕ → Option ℕ → ℕ
line_at s line None = line
line_at s line (Some id) = (known_at s id).line

abbrev pub or_zero : Option ℕ → ℕ
or_zero (Some id) = id
or_zero None = 0

-- where the object's name has no linkage
abbrev pub alone_declares : State → ℕ → ℕ → Naming → Option InitialiserTree → Option Filled → Declares
alone_declares s line place n i f =
    if is_typedef n.class || is_function n.of then nothing
    else if is_static n.class then one_object (object (or_zero (place_here s n.name)) line n f)
    else local place n.of i f

-- where it has: the line is that of its first declaration
abbrev pub linked_objects : State → ℕ → Naming → Option Filled → List Defined
linked_objects s line n f =
    if is_some f
    then object (or_zero (symbol_named s.links n.name)) (line_at s line (symbol_named s.links n.name)) n f ∷ []
    else []

abbrev pub linked_name : State → ℕ → CType → Naming → Linked
linked_name s line of n = record { symbol = or_zero (symbol_named s.links n.name); of = of; line = line }

abbrev pub linked_declares : State → ℕ → CType → Naming → Option Filled → Declares
linked_declares s line of n f =
    record { objects = linked_objects s line n f; locals = []; fills = []; linked = linked_name s line of n ∷ [] }

-- a name that its declarator gave this type
abbrev pub declares : State → ℕ → ℕ → CType → Naming → Option InitialiserTree → Option Filled → Declares
declares s line place of n i f =
    if is_linked n.linkage then linked_declares s line of n f else alone_declares s line place n i f

-- ---- what is known behind it

abbrev pub retyped : State → CType → Option ℕ → State
retyped s of None = s
retyped s of (Some id) = replaced s id (with_type (known_at s id) of)

abbrev pub recomposed : State → CType → Option ℕ → State
recomposed s of None = s
recomposed s of (Some id) = composed s id of

-- 1 for a definition, and 0 for a tentative one before any other
abbrev pub definition : Bool → Option ℤ → Option ℤ
definition true v = Some (pos 1)
definition false None = Some (pos 0)
definition false (Some z) = Some z

abbrev pub noted : State → Bool → Option ℕ → State
noted s initialised None = s
noted s initialised (Some id) = replaced s id (with_value (known_at s id) (definition initialised (known_at s id).value))

abbrev pub is_extern : Option StorageClass → Bool
is_extern (Some class.Extern) = true
is_extern c = false

-- a declaration of an object without `extern`, and one with an initialiser
abbrev pub is_definition_of : Naming → Bool → Bool
is_definition_of n initialised = not (is_function n.of) && (initialised || not (is_extern n.class))

abbrev pub with_linked_whole : State → Naming → Bool → State
with_linked_whole s n initialised =
    if is_definition_of n initialised
    then noted (recomposed (recomposed s n.of (symbol_named s.links n.name)) n.of (place_here s n.name)) initialised (symbol_named s.links n.name)
    else s

-- a completed type, and that the object is defined
abbrev pub with_whole : State → Naming → Bool → State
with_whole s n initialised = if is_linked n.linkage then with_linked_whole s n initialised else retyped s n.of (place_here s n.name)
