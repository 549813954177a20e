-- Declarations, and what comes of them, for examples.
use Rattle.std.specs.Prelude.{ℕ, ℤ, codes, false, Bool, Option, Some, None, List, [], ◌∷◌, length, map}
use Rattle.c_ast.specs.declared.class.IntKind.TheVariants as int_kind
use Rattle.c_ast.specs.declared.specifier.BasicType.TheVariants as word
use Rattle.c_ast.specs.declared.specifier.RecordKind.TheVariants as record_kind
use Rattle.c_ast.specs.declared.specifier.Storage.{Storage as StorageClass}
use Rattle.c_ast.specs.Trees.{ExprTree, Integer, Specified, SpecifierTree, Stored, Basic, Record, RecordTag, SpecifierTrees, NoSpecifiers, Specifiers, Members, NoMembers, MoreMembers, Field, NoFields, Fields, NoExpr, AnExpr, ADeclarator, DeclaratorTree, Declarator, Named, SuffixTree, ArraySuffix, NoParameters, NoSuffixes, Suffixes, InitialiserTree, ByExpr, Braced, InitialiserTrees, NoInitialisers, Initialisers, InitTree, DeclarationTree}
use Rattle.c_symbols.specs.Scoping.{symbol_named}
use Rattle.c_types.specs.CType.{CType}
use Rattle.c_meaning.specs.StmtTrees.{StmtOf, Initialise}
use Rattle.c_meaning.specs.Units.{ObjectTree}
use Rattle.c_meaning.specs.State.{Known, State, place_of, known_at, entered, left}
use Rattle.c_meaning.specs.Constraints.{Fault}
use Rattle.c_meaning.specs.Typing.{Outcome, Fine, Bad, then_do}
use Rattle.c_meaning.specs.Laws.{fault_of}
use Rattle.c_meaning.specs.Samples.{sample, outside}
use Rattle.c_meaning.specs.Linkage.{with_count}
use Rattle.c_meaning.specs.Declarations.{Defined, Linked, Declares, nothing, together}
use Rattle.c_meaning.specs.Declaring.{typed_declaration}

-- ---- declarations; the second of a row is in line 2

abbrev pub parts : List SpecifierTree → SpecifierTrees
parts [] = NoSpecifiers
parts (s ∷ ss) = Specifiers s (parts ss)

abbrev pub of_int : SpecifierTree
of_int = Basic 1 word.Int

abbrev pub with_class : StorageClass → List SpecifierTree
with_class c = Stored 1 c ∷ of_int ∷ []

-- a name, and what stands behind it
abbrev pub name : List ℕ → DeclaratorTree
name x = Declarator 1 [] (Named x) NoSuffixes

abbrev pub formed : List ℕ → SuffixTree → DeclaratorTree
formed x suffix = Declarator 1 [] (Named x) (Suffixes suffix NoSuffixes)

abbrev pub number : ℕ → ExprTree
number n = Integer 1 n int_kind.Int

abbrev pub array : List ℕ → ℕ → DeclaratorTree
array x n = formed x (ArraySuffix 1 (AnExpr (number n)))

abbrev pub open_array : List ℕ → DeclaratorTree
open_array x = formed x (ArraySuffix 1 NoExpr)

abbrev pub function : List ℕ → DeclaratorTree
function x = formed x (NoParameters 1)

abbrev pub k : List ℕ
k = codes "k"

abbrev pub n : ℕ → InitialiserTree
n value = ByExpr 1 (number value)

abbrev pub items : List InitialiserTree → InitialiserTrees
items [] = NoInitialisers
items (i ∷ is) = Initialisers i (items is)

abbrev pub list : List InitialiserTree → InitialiserTree
list is = Braced 1 (items is) false

abbrev pub plain : DeclaratorTree → InitTree
plain d = record { line = 1; declarator = d; initialiser = None }

abbrev pub set : DeclaratorTree → InitialiserTree → InitTree
set d i = record { line = 1; declarator = d; initialiser = Some i }

abbrev pub row : ℕ → List SpecifierTree → List InitTree → DeclarationTree
row line specs is = record { line = line; specifiers = Specified line (parts specs); declarators = is }

-- one declaration
abbrev pub one : List SpecifierTree → List InitTree → List DeclarationTree
one specs is = row 1 specs is ∷ []

-- one of a name, and one with an initialiser
abbrev pub of : List SpecifierTree → DeclaratorTree → List DeclarationTree
of specs d = one specs (plain d ∷ [])

abbrev pub is : List SpecifierTree → DeclaratorTree → InitialiserTree → List DeclarationTree
is specs d i = one specs (set d i ∷ [])

abbrev pub lower : DeclaratorTree → DeclaratorTree
lower (Declarator line pointers core suffixes) = Declarator 2 pointers core suffixes

-- at line 2
abbrev pub again : List SpecifierTree → DeclaratorTree → List DeclarationTree
again specs d = row 2 specs (record { line = 2; declarator = lower d; initialiser = None } ∷ []) ∷ []

abbrev pub set_again : List SpecifierTree → DeclaratorTree → InitialiserTree → List DeclarationTree
set_again specs d i = row 2 specs (record { line = 2; declarator = lower d; initialiser = Some i } ∷ []) ∷ []

-- at line 1, but its name in line 2
abbrev pub below : List SpecifierTree → DeclaratorTree → Option InitialiserTree → List DeclarationTree
below specs d i = row 1 specs (record { line = 2; declarator = lower d; initialiser = i } ∷ []) ∷ []

abbrev pub structure : List ℕ → SpecifierTree
structure tag = RecordTag 1 record_kind.Struct tag

-- a pointer
abbrev pub pointer : List ℕ → DeclaratorTree
pointer x = Declarator 1 ([] ∷ []) (Named x) NoSuffixes

-- struct open {int m;}
abbrev pub completing : SpecifierTree
completing = Record 1 record_kind.Struct (Some (codes "open")) (MoreMembers (Members 1 (Specified 1 (parts (of_int ∷ []))) (Fields (Field 1 (ADeclarator (name (codes "m"))) NoExpr) NoFields)) NoMembers)

-- ---- what comes of them

abbrev pub all_typed : State → List DeclarationTree → Outcome Declares
all_typed s [] = Fine s nothing
all_typed s (d ∷ ds) = then_do (typed_declaration s d) (λ s a. then_do (all_typed s ds) (λ s b. Fine s (together a b)))

-- in the function, of which two locals are declared
abbrev pub block : State
block = with_count sample 2

-- their fault at file scope, and in the function
abbrev pub file_fault : List DeclarationTree → Option Fault
file_fault ds = fault_of (all_typed outside ds)

abbrev pub block_fault : List DeclarationTree → Option Fault
block_fault ds = fault_of (all_typed block ds)

-- each list in a scope inside that of the one before
abbrev pub nested : State → List (List DeclarationTree) → Outcome Declares
nested s [] = Fine s nothing
nested s (ds ∷ inner) = then_do (all_typed s ds) (λ s a. then_do (nested (entered s) inner) (λ s b. Fine s (together a b)))

-- a block, and what stands behind it
abbrev pub around : State → List DeclarationTree → List DeclarationTree → Outcome Declares
around s ds behind = then_do (all_typed (entered s) ds) (λ t a. then_do (all_typed (left s.outer s.inner t) behind) (λ s b. Fine s (together a b)))

-- what a name is known as behind them
abbrev pub known_of : State → Option ℕ → Option Known
known_of s None = None
known_of s (Some id) = Some (known_at s id)

abbrev pub known_behind : List ℕ → Outcome Declares → Option Known
known_behind x (Bad f) = None
known_behind x (Fine s what) = known_of s (place_of s x)

abbrev pub type_in : Option Known → Option CType
type_in None = None
type_in (Some k) = Some k.of

abbrev pub type_behind : List ℕ → Outcome Declares → Option CType
type_behind x outcome = type_in (known_behind x outcome)

-- whether a name with linkage is defined: 1, or 0 where that is tentative
abbrev pub value_of : Option Known → Option ℤ
value_of None = None
value_of (Some k) = k.value

abbrev pub defined_behind : List ℕ → Outcome Declares → Option ℤ
defined_behind x (Bad f) = None
defined_behind x (Fine s what) = value_of (known_of s (symbol_named s.links x))

-- the objects that they define, with their names and lines, and whether they are constant
abbrev pub objects_in : Outcome Declares → List ObjectTree
objects_in (Fine s what) = map (λ (o : Defined). o.object) what.objects
objects_in (Bad f) = []

abbrev pub names_of : List ObjectTree → List (List ℕ)
names_of [] = []
names_of (o ∷ os) = o.name ∷ names_of os

abbrev pub lines_of : List ObjectTree → List ℕ
lines_of [] = []
lines_of (o ∷ os) = o.line ∷ lines_of os

abbrev pub constants_of : List ObjectTree → List Bool
constants_of [] = []
constants_of (o ∷ os) = o.constant ∷ constants_of os

abbrev pub locals_in : Outcome Declares → List CType
locals_in (Fine s what) = what.locals
locals_in (Bad f) = []

-- the names with linkage that they declare, with their symbols, types and lines
abbrev pub linked_in : Outcome Declares → List Linked
linked_in (Fine s what) = what.linked
linked_in (Bad f) = []

-- the symbols of the objects
abbrev pub symbols_in : Outcome Declares → List ℕ
symbols_in (Fine s what) = map (λ (o : Defined). o.symbol) what.objects
symbols_in (Bad f) = []

-- which locals are initialised, whether they become zero first, and how many places are stored
pub record Begun : Type 0 where
  pub local : ℕ
  pub zero : Bool
  pub places : ℕ

abbrev pub begun : List (StmtOf CType) → List Begun
begun (Initialise local zero places ∷ ss) = record { local = local; zero = zero; places = length places } ∷ begun ss
begun ss = []

abbrev pub begun_in : Outcome Declares → List Begun
begun_in (Fine s what) = begun what.fills
begun_in (Bad f) = []
