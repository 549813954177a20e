-- The nodes of initialisers and declarations in postorder, each behind its parts, as far as these are typed, and the first of
-- them that breaks a constraint or passes a limit.
use Rattle.std.specs.Prelude.{ℕ, Bool, true, false, Option, Some, None, List, [], ◌∷◌, ◌++◌, map, is_some}
use Rattle.c_ast.specs.declared.specifier.RecordKind.{RecordKind}
use Rattle.c_ast.specs.Trees.{SpecifiersTree, NoSpecifiers, Specifiers, InitialiserTree, ByExpr, Braced, InitialiserTrees, NoInitialisers, Initialisers, InitTree, DeclarationTree}
use Rattle.c_ast.specs.Trees as tree
use Rattle.c_meaning.specs.State.{State}
use Rattle.c_meaning.specs.Types.{is_scalar}
use Rattle.c_meaning.specs.Nodes.{Node, Typing}
use Rattle.c_meaning.specs.Nodes as node
use Rattle.c_meaning.specs.TypeRows.{Specified, name_or_empty, formed}
use Rattle.c_meaning.specs.Constraints.{Fault, fault_at}
use Rattle.c_meaning.specs.Typing.{Outcome, Fine, Bad, typed, typed_declarator}
use Rattle.c_meaning.specs.Postorder.{Place, nodes, specifiers_nodes, declarator_nodes, or_else}
use Rattle.c_meaning.specs.Linkage.{is_outside}
use Rattle.c_meaning.specs.Filling.{Waiting, taken, next, begun_in}
use Rattle.c_meaning.specs.Initialising.{InitNode, Value, Items, Initialised, init_fault, value_node, list_node, whole_node, whole, place_in, value_of, list_of, is_scalar_at, is_within, typed_items, typed_item, typed_initialiser}
use Rattle.c_meaning.specs.Declarations.{DeclNode, AloneTag, Outside, Name, Whole, Declaration, decl_fault}
use Rattle.c_meaning.specs.Declaring.{alone, line_of, first_class, naming, with_type_here, with_type, initialised, type_filled, declares_something, at_decl, typed_inside, typed_own_specifiers, typed_name, maybe_initialised, typed_init, typed_inits}

-- a node whose parts are typed, where it stands: of an expression, specifiers or a declarator; an initialiser; or of a
-- declaration
pub data AnyPlace : Type 0 where
  Part : (place : Place) → AnyPlace
  Init : (state : State) (line : ℕ) (node : InitNode) → AnyPlace
  Decl : (state : State) (line : ℕ) (node : DeclNode) → AnyPlace

abbrev pub parts : List Place → List AnyPlace
parts ps = map Part ps

abbrev pub init_place : State → ℕ → InitNode → List AnyPlace
init_place s line n = Init s line n ∷ []

abbrev pub decl_place : State → ℕ → DeclNode → List AnyPlace
decl_place s line n = Decl s line n ∷ []

abbrev pub part_place : State → ℕ → Node → List AnyPlace
part_place s line n = Part (record { state = s; line = line; node = n }) ∷ []

-- the nodes of a part, and of what stands behind it where it is typed
abbrev pub behind_any : {T : Type 0} → Outcome T → (State → T → List AnyPlace) → List AnyPlace
behind_any (Fine s t) later = later s t
behind_any (Bad f) later = []

abbrev pub see : {T : Type 0} → List AnyPlace → Outcome T → (State → T → List AnyPlace) → List AnyPlace
see places part later = places ++ behind_any part later

-- ---- initialisers

abbrev mutual
  pub items_nodes : State → Bool → Bool → List Waiting → InitialiserTrees → List AnyPlace
  items_nodes s static scalar ws NoInitialisers = []
  items_nodes s static scalar ws (Initialisers i is) = see (item_nodes s static scalar ws i) (typed_item s static scalar ws i) (λ s one. see (items_nodes s static scalar one.left is) (typed_items s static scalar one.left is) (λ s more. []))

  pub item_nodes : State → Bool → Bool → List Waiting → InitialiserTree → List AnyPlace
  item_nodes s static scalar ws (ByExpr l e) = see (parts (nodes s e)) (typed s e) (λ s c. init_place s l (value_node static (taken s.tags c ws) c))
  item_nodes s static scalar ws (Braced l items comma) = see (items_nodes s static (is_scalar_at (next s.tags ws)) (begun_in s.tags items (next s.tags ws)) items) (typed_items s static (is_scalar_at (next s.tags ws)) (begun_in s.tags items (next s.tags ws)) items) (λ t inner. init_place t l (list_node static (is_within scalar (next s.tags ws)) inner))

abbrev pub initialiser_nodes : State → Initialised → InitialiserTree → List AnyPlace
initialiser_nodes s i (ByExpr l e) = see (parts (nodes s e)) (typed s e) (λ t c. init_place t l (whole_node s i (Value (place_in (whole s.tags i.of)) c) (value_of s i c).of))
initialiser_nodes s i (Braced l items comma) = see (items_nodes s i.static (is_scalar i.of) (begun_in s.tags items (whole s.tags i.of)) items) (typed_items s i.static (is_scalar i.of) (begun_in s.tags items (whole s.tags i.of)) items) (λ t inner. init_place t l (whole_node s i (Items inner.excess false) (list_of i inner).of))

abbrev pub maybe_initialiser_nodes : State → Initialised → Option InitialiserTree → List AnyPlace
maybe_initialiser_nodes s o None = []
maybe_initialiser_nodes s o (Some i) = see (initialiser_nodes s o i) (typed_initialiser s o i) (λ s f. [])

-- ---- declarations

abbrev pub alone_nodes : State → ℕ → ℕ → RecordKind → List ℕ → List AnyPlace
alone_nodes s line l k tag =
    see (decl_place s l (AloneTag k tag)) (at_decl s l (AloneTag k tag) (alone s l k tag).state (alone s l k tag).of) (λ s of. part_place s line (Typing (node.Specifiers (node.Whole of ∷ []))))

abbrev pub lone_nodes : State → SpecifiersTree → List AnyPlace
lone_nodes s (tree.Specified line (Specifiers (tree.RecordTag l k tag) NoSpecifiers)) = alone_nodes s line l k tag
lone_nodes s specs = parts (specifiers_nodes s specs)

abbrev pub inside_nodes : State → SpecifiersTree → List InitTree → List AnyPlace
inside_nodes s specs [] = lone_nodes s specs
inside_nodes s specs is = parts (specifiers_nodes s specs)

abbrev pub outside_nodes : Bool → State → ℕ → Specified → List AnyPlace
outside_nodes true s line b = decl_place s line (Outside b.classes)
outside_nodes false s line b = []

abbrev pub own_specifiers_nodes : State → SpecifiersTree → List InitTree → List AnyPlace
own_specifiers_nodes s specs is = see (inside_nodes s specs is) (typed_inside s specs is) (λ s b. outside_nodes (is_outside s) s (line_of specs) b)

abbrev pub naming_nodes : State → ℕ → Specified → InitTree → List AnyPlace
naming_nodes s line b i =
    see (parts (declarator_nodes s i.declarator)) (typed_declarator s i.declarator) (λ s p.
    see (decl_place s p.line (Name (naming s (first_class b.classes) (name_or_empty p.name) (formed b.of p.steps))))
    (at_decl s p.line (Name (naming s (first_class b.classes) (name_or_empty p.name) (formed b.of p.steps))) s p) (λ s p.
    part_place s p.line (Typing (node.Declarator b.of p.steps))))

abbrev pub init_nodes : State → ℕ → Specified → InitTree → List AnyPlace
init_nodes s line b i =
    see (naming_nodes s line b i) (typed_name s line b i) (λ t n.
    see (maybe_initialiser_nodes t (initialised t (with_type_here t n)) i.initialiser) (maybe_initialised t (initialised t (with_type_here t n)) i.initialiser) (λ u f.
    decl_place u i.line (Whole (with_type n (type_filled (with_type_here t n).of f)) (is_some f))))

abbrev pub inits_nodes : State → ℕ → Specified → List InitTree → List AnyPlace
inits_nodes s line b [] = []
inits_nodes s line b (i ∷ is) = see (init_nodes s line b i) (typed_init s line b i) (λ s one. see (inits_nodes s line b is) (typed_inits s line b is) (λ s more. []))

abbrev pub declaration_nodes : State → DeclarationTree → List AnyPlace
declaration_nodes s d =
    see (own_specifiers_nodes s d.specifiers d.declarators) (typed_own_specifiers s d.specifiers d.declarators) (λ s b.
    see (inits_nodes s d.line b d.declarators) (typed_inits s d.line b d.declarators) (λ s what. decl_place s d.line (Declaration (declares_something d))))

-- ---- the first fault

abbrev pub any_fault : AnyPlace → Option Fault
any_fault (Part p) = fault_at p.state p.line p.node
any_fault (Init s line n) = init_fault s line n
any_fault (Decl s line n) = decl_fault s line n

-- the fault of the first node that has one
abbrev pub first_any : List AnyPlace → Option Fault
first_any [] = None
first_any (p ∷ ps) = or_else (any_fault p) (first_any ps)
