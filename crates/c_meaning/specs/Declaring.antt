-- Typing of declarations: their parts in order, and then the declaration.
-- Source: C89 3.5, 3.5.7.
use Rattle.std.specs.Prelude.{ℕ, ◌&&◌, ◌||◌, not, Bool, true, false, Option, Some, None, List, [], ◌∷◌, is_some}
use Rattle.c_ast.specs.declared.specifier.Storage.{Storage as StorageClass}
use Rattle.c_ast.specs.declared.specifier.RecordKind.{RecordKind}
use Rattle.c_ast.specs.Trees.{SpecifiersTree, SpecifierTree, SpecifierTrees, NoSpecifiers, Specifiers, InitialiserTree, InitTree, DeclarationTree}
use Rattle.c_ast.specs.Trees as tree
use Rattle.c_types.specs.CType.{CType}
use Rattle.c_meaning.specs.State.{State, place_here, known_at}
use Rattle.c_meaning.specs.Types.{is_function}
use Rattle.c_meaning.specs.Nodes.{Typing}
use Rattle.c_meaning.specs.Nodes as node
use Rattle.c_meaning.specs.TypeRows.{Specified, Tagged, specified, tag_key, with_tag, tagged_at, record_type, name_or_empty, formed}
use Rattle.c_meaning.specs.Typing.{Outcome, Fine, then_do, unless, at, typed_specifiers, typed_declarator}
use Rattle.c_meaning.specs.Linkage.{linkage, is_linked, is_outside, local_count, with_name}
use Rattle.c_meaning.specs.Initialising.{Initialised, Filled, typed_initialiser}
use Rattle.c_meaning.specs.Declarations.{Naming, DeclNode, AloneTag, Outside, Name, Whole, Declaration, decl_fault, Declares, nothing, together, declares, is_static, is_typedef, is_extern, with_whole}

-- the node of a declaration whose parts are typed: its fault, or what it makes of them
abbrev pub at_decl : {T : Type 0} → State → ℕ → DeclNode → State → T → Outcome T
at_decl s line n behind typed = unless (decl_fault s line n) behind typed

-- ---- specifiers

-- a tag that stands alone: the innermost scope's, or a new one there (C89 3.5.2.3)
abbrev pub alone_at : State → ℕ → RecordKind → List ℕ → Option ℕ → Tagged
alone_at s line k tag (Some id) = tagged_at s id
alone_at s line k tag None = with_tag s line tag (record_type k s.count) None

abbrev pub alone : State → ℕ → RecordKind → List ℕ → Tagged
alone s line k tag = alone_at s line k tag (place_here s (tag_key tag))

abbrev pub typed_alone : State → ℕ → ℕ → RecordKind → List ℕ → Outcome Specified
typed_alone s line l k tag =
    then_do (at_decl s l (AloneTag k tag) (alone s l k tag).state (alone s l k tag).of) (λ s of. at s line (Typing (node.Specifiers (node.Whole of ∷ []))) s (specified (node.Whole of ∷ [])))

-- specifiers with nothing behind them
abbrev pub typed_lone : State → SpecifiersTree → Outcome Specified
typed_lone s (tree.Specified line (Specifiers (tree.RecordTag l k tag) NoSpecifiers)) = typed_alone s line l k tag
typed_lone s specs = typed_specifiers s specs

abbrev pub typed_inside : State → SpecifiersTree → List InitTree → Outcome Specified
typed_inside s specs [] = typed_lone s specs
typed_inside s specs is = typed_specifiers s specs

abbrev pub line_of : SpecifiersTree → ℕ
line_of (tree.Specified line list) = line

-- at file scope some storage classes mean nothing
abbrev pub at_outside : Bool → State → ℕ → Specified → Outcome Specified
at_outside true s line b = at_decl s line (Outside b.classes) s b
at_outside false s line b = Fine s b

abbrev pub typed_own_specifiers : State → SpecifiersTree → List InitTree → Outcome Specified
typed_own_specifiers s specs is = then_do (typed_inside s specs is) (λ s b. at_outside (is_outside s) s (line_of specs) b)

-- ---- declared names

abbrev pub first_class : List StorageClass → Option StorageClass
first_class [] = None
first_class (c ∷ cs) = Some c

abbrev pub naming : State → Option StorageClass → List ℕ → CType → Naming
naming s c name of = record { class = c; name = name; of = of; linkage = linkage s c name (is_function of) }

-- with the type that it has behind its declarator, which may be a composite
abbrev pub type_here : State → Option ℕ → CType → CType
type_here s None of = of
type_here s (Some id) of = (known_at s id).of

abbrev pub with_type_here : State → Naming → Naming
with_type_here s n = record { class = n.class; name = n.name; of = type_here s (place_here s n.name) n.of; linkage = n.linkage }

abbrev pub with_type : Naming → CType → Naming
with_type n of = record { class = n.class; name = n.name; of = of; linkage = n.linkage }

-- its declarator: constraints on the name, and on its type; from here on it is in force
abbrev pub typed_name : State → ℕ → Specified → InitTree → Outcome Naming
typed_name s line b i =
    then_do (typed_declarator s i.declarator) (λ s p.
    then_do (at_decl s p.line (Name (naming s (first_class b.classes) (name_or_empty p.name) (formed b.of p.steps))) s p) (λ s p.
    at s p.line (Typing (node.Declarator b.of p.steps)) (with_name s line (first_class b.classes) (name_or_empty p.name) (formed b.of p.steps))
    (naming s (first_class b.classes) (name_or_empty p.name) (formed b.of p.steps))))

-- an initialiser stands neither on a typedef nor on a block's `extern`
abbrev pub initialised : State → Naming → Initialised
initialised s n =
    record {
      of = n.of;
      static = is_linked n.linkage || is_static n.class;
      barred = is_typedef n.class || (is_extern n.class && not (is_outside s));
    }

abbrev pub maybe_initialised : State → Initialised → Option InitialiserTree → Outcome (Option Filled)
maybe_initialised s o None = Fine s None
maybe_initialised s o (Some i) = then_do (typed_initialiser s o i) (λ s f. Fine s (Some f))

abbrev pub type_filled : CType → Option Filled → CType
type_filled of None = of
type_filled of (Some f) = f.of

-- a name with its initialiser; a local object has the place that it got at its declarator
abbrev pub at_whole : State → ℕ → ℕ → ℕ → CType → Naming → Option InitialiserTree → Option Filled → Outcome Declares
at_whole s line l place of n i f = at_decl s l (Whole n (is_some f)) (with_whole s n (is_some f)) (declares s line place of n i f)

abbrev pub typed_init : State → ℕ → Specified → InitTree → Outcome Declares
typed_init s line b i =
    then_do (typed_name s line b i) (λ t n.
    then_do (maybe_initialised t (initialised t (with_type_here t n)) i.initialiser) (λ u f.
    at_whole u line i.line (local_count s) n.of (with_type n (type_filled (with_type_here t n).of f)) i.initialiser f))

abbrev pub typed_inits : State → ℕ → Specified → List InitTree → Outcome Declares
typed_inits s line b [] = Fine s nothing
typed_inits s line b (i ∷ is) = then_do (typed_init s line b i) (λ s one. then_do (typed_inits s line b is) (λ s more. Fine s (together one more)))

-- ---- declarations

abbrev pub declares_tag : SpecifierTree → Bool
declares_tag (tree.Record line k tag ms) = is_some tag
declares_tag (tree.RecordTag line k tag) = true
declares_tag (tree.Enum line tag es comma) = true
declares_tag (tree.EnumTag line tag) = true
declares_tag s = false

abbrev pub declare_tag : SpecifierTrees → Bool
declare_tag NoSpecifiers = false
declare_tag (Specifiers s ss) = declares_tag s || declare_tag ss

abbrev pub list_of : SpecifiersTree → SpecifierTrees
list_of (tree.Specified line list) = list

abbrev pub is_some_init : List InitTree → Bool
is_some_init [] = false
is_some_init (i ∷ is) = true

abbrev pub declares_something : DeclarationTree → Bool
declares_something d = is_some_init d.declarators || declare_tag (list_of d.specifiers)

abbrev pub typed_declaration : State → DeclarationTree → Outcome Declares
typed_declaration s d =
    then_do (typed_own_specifiers s d.specifiers d.declarators) (λ s b.
    then_do (typed_inits s d.line b d.declarators) (λ s what. at_decl s d.line (Declaration (declares_something d)) s what))
