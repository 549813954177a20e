-- The fault that typing gives of an initialiser or a declaration is that of the first node, in postorder, that has one.
use Rattle.std.proofs.Common.{refl}
use Rattle.std.specs.Prelude.{ℕ, Bool, true, false, Option, Some, None, List, [], ◌∷◌}
use Rattle.c_ast.specs.declared.specifier.RecordKind.{RecordKind}
use Rattle.c_ast.specs.Trees.{SpecifiersTree, NoSpecifiers, Specifiers, InitialiserTree, ByExpr, Braced, InitialiserTrees, NoInitialisers, Initialisers, InitTree, DeclarationTree}
use Rattle.c_ast.specs.Trees as tree
use Rattle.c_meaning.specs.State.{State}
use Rattle.c_meaning.specs.Nodes.{Typing}
use Rattle.c_meaning.specs.Nodes as node
use Rattle.c_meaning.specs.TypeRows.{Specified, specified, name_or_empty, formed}
use Rattle.c_meaning.specs.Constraints.{fault_at}
use Rattle.c_meaning.specs.Typing.{at, typed_specifiers}
use Rattle.c_meaning.specs.Postorder.{specifiers_nodes}
use Rattle.c_meaning.specs.Declarations.{AloneTag, Name, decl_fault}
use Rattle.c_meaning.specs.Linkage.{is_outside}
use Rattle.c_meaning.specs.Types.{is_scalar}
use Rattle.c_meaning.specs.Filling.{Waiting, next, begun_in}
use Rattle.c_meaning.specs.Initialising.{Initialised, is_scalar_at, whole, typed_items, typed_item, typed_initialiser}
use Rattle.c_meaning.specs.Declaring.{at_decl, alone, first_class, naming, line_of, initialised, with_type_here, typed_alone, typed_lone, typed_inside, at_outside, typed_own_specifiers, typed_name, maybe_initialised, typed_init, typed_inits, typed_declaration}
use Rattle.c_meaning.specs.DeclaringNodes.{decl_place, part_place, items_nodes, item_nodes, initialiser_nodes, maybe_initialiser_nodes, alone_nodes, lone_nodes, inside_nodes, outside_nodes, own_specifiers_nodes, naming_nodes, init_nodes, inits_nodes, declaration_nodes}
use Rattle.c_meaning.specs.Laws.{IsFirstOf}
use Rattle.c_meaning.proofs.lemmas.Threads.{see_first, part_first, node_first}
use Rattle.c_meaning.proofs.lemmas.TypingFaults.{expr_first, specifiers_first, declarator_first}

-- ---- initialisers

mutual
  items_first : (s : State) (static scalar : Bool) (ws : List Waiting) (is : InitialiserTrees) → IsFirstOf (typed_items s static scalar ws is) (items_nodes s static scalar ws is)
  items_first s static scalar ws NoInitialisers = refl
  items_first s static scalar ws (Initialisers i is) = see_first _ _ _ _ (item_first s static scalar ws i) (λ s one. see_first _ _ _ _ (items_first s static scalar one.left is) (λ s more. refl))

  item_first : (s : State) (static scalar : Bool) (ws : List Waiting) (i : InitialiserTree) → IsFirstOf (typed_item s static scalar ws i) (item_nodes s static scalar ws i)
  item_first s static scalar ws (ByExpr l e) = see_first _ _ _ _ (part_first _ _ (expr_first s e)) (λ s c. node_first _ _ _)
  item_first s static scalar ws (Braced l items comma) = see_first _ _ _ _ (items_first s static (is_scalar_at (next s.tags ws)) (begun_in s.tags items (next s.tags ws)) items) (λ t inner. node_first _ _ _)

pub initialiser_first : (s : State) (o : Initialised) (i : InitialiserTree) → IsFirstOf (typed_initialiser s o i) (initialiser_nodes s o i)
initialiser_first s o (ByExpr l e) = see_first _ _ _ _ (part_first _ _ (expr_first s e)) (λ s c. node_first _ _ _)
initialiser_first s o (Braced l items comma) = see_first _ _ _ _ (items_first s o.static (is_scalar o.of) (begun_in s.tags items (whole s.tags o.of)) items) (λ t inner. node_first _ _ _)

maybe_initialiser_first : (s : State) (o : Initialised) (i : Option InitialiserTree) → IsFirstOf (maybe_initialised s o i) (maybe_initialiser_nodes s o i)
maybe_initialiser_first s o None = refl
maybe_initialiser_first s o (Some i) = see_first _ _ _ _ (initialiser_first s o i) (λ s f. refl)

-- ---- declarations

alone_first : (s : State) (line l : ℕ) (k : RecordKind) (tag : List ℕ) → IsFirstOf (typed_alone s line l k tag) (alone_nodes s line l k tag)
alone_first s line l k tag =
    see_first (at_decl s l (AloneTag k tag) (alone s l k tag).state (alone s l k tag).of) (λ s of. at s line (Typing (node.Specifiers (node.Whole of ∷ []))) s (specified (node.Whole of ∷ []))) (decl_place s l (AloneTag k tag)) (λ s of. part_place s line (Typing (node.Specifiers (node.Whole of ∷ []))))
    (node_first (decl_fault s l (AloneTag k tag)) (alone s l k tag).state (alone s l k tag).of) (λ s of. node_first (fault_at s line (Typing (node.Specifiers (node.Whole of ∷ [])))) s (specified (node.Whole of ∷ [])))

lone_first : (s : State) (specs : SpecifiersTree) → IsFirstOf (typed_lone s specs) (lone_nodes s specs)
lone_first s (tree.Specified line (Specifiers (tree.RecordTag l k tag) NoSpecifiers)) = alone_first s line l k tag
lone_first s specs = part_first (typed_specifiers s specs) (specifiers_nodes s specs) (specifiers_first s specs)

pub inside_first : (s : State) (specs : SpecifiersTree) (is : List InitTree) → IsFirstOf (typed_inside s specs is) (inside_nodes s specs is)
inside_first s specs [] = lone_first s specs
inside_first s specs (i ∷ is) = part_first (typed_specifiers s specs) (specifiers_nodes s specs) (specifiers_first s specs)

pub outside_first : (outside : Bool) (s : State) (line : ℕ) (b : Specified) → IsFirstOf (at_outside outside s line b) (outside_nodes outside s line b)
outside_first true s line b = node_first _ _ _
outside_first false s line b = refl

own_first : (s : State) (specs : SpecifiersTree) (is : List InitTree) → IsFirstOf (typed_own_specifiers s specs is) (own_specifiers_nodes s specs is)
own_first s specs is = see_first _ _ _ _ (inside_first s specs is) (λ s b. outside_first (is_outside s) s (line_of specs) b)

naming_first : (s : State) (line : ℕ) (b : Specified) (i : InitTree) → IsFirstOf (typed_name s line b i) (naming_nodes s line b i)
naming_first s line b i =
    see_first _ _ _ _ (part_first _ _ (declarator_first s i.declarator)) (λ s p.
    see_first (at_decl s p.line (Name (naming s (first_class b.classes) (name_or_empty p.name) (formed b.of p.steps))) s p) _ (decl_place s p.line (Name (naming s (first_class b.classes) (name_or_empty p.name) (formed b.of p.steps)))) _
    (node_first (decl_fault s p.line (Name (naming s (first_class b.classes) (name_or_empty p.name) (formed b.of p.steps)))) s p) (λ s p. node_first _ _ _))

init_first : (s : State) (line : ℕ) (b : Specified) (i : InitTree) → IsFirstOf (typed_init s line b i) (init_nodes s line b i)
init_first s line b i = see_first _ _ _ _ (naming_first s line b i) (λ t n. see_first _ _ _ _ (maybe_initialiser_first t (initialised t (with_type_here t n)) i.initialiser) (λ u f. node_first _ _ _))

inits_first : (s : State) (line : ℕ) (b : Specified) (is : List InitTree) → IsFirstOf (typed_inits s line b is) (inits_nodes s line b is)
inits_first s line b [] = refl
inits_first s line b (i ∷ is) = see_first _ _ _ _ (init_first s line b i) (λ s one. see_first _ _ _ _ (inits_first s line b is) (λ s more. refl))

pub declaration_first : (s : State) (d : DeclarationTree) → IsFirstOf (typed_declaration s d) (declaration_nodes s d)
declaration_first s d = see_first _ _ _ _ (own_first s d.specifiers d.declarators) (λ s b. see_first _ _ _ _ (inits_first s d.line b d.declarators) (λ s what. node_first _ _ _))
