-- Typing of initialisers and declarations as a relation, by rows: each is typed where its parts are, in order, and its node
-- breaks no constraint and passes no limit. The states are those before and behind it.
-- Source: C89 3.5, 3.5.7.
use Rattle.std.specs.Prelude.{◌≡◌, ℕ, Bool, true, false, Option, Some, None, List, [], ◌∷◌, is_some}
use Rattle.c_ast.specs.declared.specifier.RecordKind.{RecordKind}
use Rattle.c_ast.specs.Trees.{SpecifiersTree, NoSpecifiers, Specifiers, InitialiserTree, ByExpr, Braced, InitialiserTrees, NoInitialisers, Initialisers, InitTree, DeclarationTree}
use Rattle.c_ast.specs.Trees as tree
use Rattle.c_meaning.specs.State.{State}
use Rattle.c_meaning.specs.Nodes.{Typing}
use Rattle.c_meaning.specs.Nodes as node
use Rattle.c_meaning.specs.TypeRows.{Specified, specified, name_or_empty, formed}
use Rattle.c_meaning.specs.TypingRelation.{Is, Then, IsAt, Types, TypesSpecifiers, TypesDeclarator}
use Rattle.c_meaning.specs.Linkage.{is_outside, local_count, with_name}
use Rattle.c_meaning.specs.Filling.{Waiting, taken, next, begun_in}
use Rattle.c_meaning.specs.Initialising.{InitNode, Value, Items, Initialised, Stored, Filled, init_fault, stored, joined, value_node, list_node, by_value, by_list, whole_node, whole, place_in, value_of, list_of, is_scalar_at, is_within}
use Rattle.c_meaning.specs.Types.{is_scalar}
use Rattle.c_meaning.specs.Declarations.{Naming, DeclNode, AloneTag, Outside, Name, Whole, Declaration, decl_fault, Declares, nothing, together, declares, with_whole}
use Rattle.c_meaning.specs.Declaring.{alone, line_of, first_class, naming, with_type_here, with_type, initialised, type_filled, declares_something}

-- ---- initialisers

-- a node that breaks nothing and passes nothing, and what it makes of its parts
abbrev pub IsInit : {T : Type 0} → State → ℕ → InitNode → T → State → T → Type 0
IsInit s line n typed u x = (init_fault s line n ≡ None) × Is s typed u x

abbrev mutual
  pub TypesItems : State → Bool → Bool → List Waiting → InitialiserTrees → State → Stored → Type 0
  TypesItems s static scalar ws NoInitialisers = Is s (stored [] ws false)
  TypesItems s static scalar ws (Initialisers i is) = Then (TypesItem s static scalar ws i) (λ s one. Then (TypesItems s static scalar one.left is) (λ s more. Is s (joined one more)))

  pub TypesItem : State → Bool → Bool → List Waiting → InitialiserTree → State → Stored → Type 0
  TypesItem s static scalar ws (ByExpr l e) = Then (Types s e) (λ s c. IsInit s l (value_node static (taken s.tags c ws) c) (by_value (taken s.tags c ws) ws c))
  TypesItem s static scalar ws (Braced l items comma) = Then (TypesItems s static (is_scalar_at (next s.tags ws)) (begun_in s.tags items (next s.tags ws)) items) (λ t inner. IsInit t l (list_node static (is_within scalar (next s.tags ws)) inner) (by_list (next s.tags ws) ws inner))

abbrev pub TypesInitialiser : State → Initialised → InitialiserTree → State → Filled → Type 0
TypesInitialiser s i (ByExpr l e) = Then (Types s e) (λ t c. IsInit t l (whole_node s i (Value (place_in (whole s.tags i.of)) c) (value_of s i c).of) (value_of s i c))
TypesInitialiser s i (Braced l items comma) = Then (TypesItems s i.static (is_scalar i.of) (begun_in s.tags items (whole s.tags i.of)) items) (λ t inner. IsInit t l (whole_node s i (Items inner.excess false) (list_of i inner).of) (list_of i inner))

abbrev pub TypesMaybeInitialiser : State → Initialised → Option InitialiserTree → State → Option Filled → Type 0
TypesMaybeInitialiser s o None = Is s None
TypesMaybeInitialiser s o (Some i) = Then (TypesInitialiser s o i) (λ s f. Is s (Some f))

-- ---- declarations

abbrev pub IsDecl : {T : Type 0} → State → ℕ → DeclNode → State → T → State → T → Type 0
IsDecl s line n behind typed u x = (decl_fault s line n ≡ None) × Is behind typed u x

abbrev pub TypesAlone : State → ℕ → ℕ → RecordKind → List ℕ → State → Specified → Type 0
TypesAlone s line l k tag =
    Then (IsDecl s l (AloneTag k tag) (alone s l k tag).state (alone s l k tag).of) (λ s of. IsAt s line (Typing (node.Specifiers (node.Whole of ∷ []))) s (specified (node.Whole of ∷ [])))

abbrev pub TypesLone : State → SpecifiersTree → State → Specified → Type 0
TypesLone s (tree.Specified line (Specifiers (tree.RecordTag l k tag) NoSpecifiers)) = TypesAlone s line l k tag
TypesLone s specs = TypesSpecifiers s specs

abbrev pub TypesInside : State → SpecifiersTree → List InitTree → State → Specified → Type 0
TypesInside s specs [] = TypesLone s specs
TypesInside s specs is = TypesSpecifiers s specs

abbrev pub IsOutside : Bool → State → ℕ → Specified → State → Specified → Type 0
IsOutside true s line b = IsDecl s line (Outside b.classes) s b
IsOutside false s line b = Is s b

abbrev pub TypesOwnSpecifiers : State → SpecifiersTree → List InitTree → State → Specified → Type 0
TypesOwnSpecifiers s specs is = Then (TypesInside s specs is) (λ s b. IsOutside (is_outside s) s (line_of specs) b)

abbrev pub TypesName : State → ℕ → Specified → InitTree → State → Naming → Type 0
TypesName s line b i =
    Then (TypesDeclarator s i.declarator) (λ s p.
    Then (IsDecl s p.line (Name (naming s (first_class b.classes) (name_or_empty p.name) (formed b.of p.steps))) s p) (λ s p.
    IsAt s p.line (Typing (node.Declarator b.of p.steps)) (with_name s line (first_class b.classes) (name_or_empty p.name) (formed b.of p.steps))
    (naming s (first_class b.classes) (name_or_empty p.name) (formed b.of p.steps))))

abbrev pub TypesInit : State → ℕ → Specified → InitTree → State → Declares → Type 0
TypesInit s line b i =
    Then (TypesName s line b i) (λ t n.
    Then (TypesMaybeInitialiser t (initialised t (with_type_here t n)) i.initialiser) (λ u f.
    IsDecl u i.line (Whole (with_type n (type_filled (with_type_here t n).of f)) (is_some f)) (with_whole u (with_type n (type_filled (with_type_here t n).of f)) (is_some f)) (declares u line (local_count s) n.of (with_type n (type_filled (with_type_here t n).of f)) i.initialiser f)))

abbrev pub TypesInits : State → ℕ → Specified → List InitTree → State → Declares → Type 0
TypesInits s line b [] = Is s nothing
TypesInits s line b (i ∷ is) = Then (TypesInit s line b i) (λ s one. Then (TypesInits s line b is) (λ s more. Is s (together one more)))

abbrev pub TypesDeclaration : State → DeclarationTree → State → Declares → Type 0
TypesDeclaration s d =
    Then (TypesOwnSpecifiers s d.specifiers d.declarators) (λ s b.
    Then (TypesInits s d.line b d.declarators) (λ s what. IsDecl s d.line (Declaration (declares_something d)) s what))
