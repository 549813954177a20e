-- What the rows of initialisers and declarations type is what typing as a function gives, and nothing else.
use Rattle.std.specs.Prelude.{ℕ, Bool, true, false, Option, Some, None, List, [], ◌∷◌}
use Rattle.c_ast.specs.declared.specifier.RecordKind.{RecordKind}
use Rattle.c_ast.specs.Trees.{SpecifiersTree, NoSpecifiers, Specifiers, InitialiserTree, ByExpr, Braced, InitialiserTrees, NoInitialisers, Initialisers, InitTree, DeclarationTree}
use Rattle.c_ast.specs.Trees as tree
use Rattle.c_meaning.specs.State.{State}
use Rattle.c_meaning.specs.TypeRows.{Specified}
use Rattle.c_meaning.specs.Linkage.{is_outside}
use Rattle.c_meaning.specs.Types.{is_scalar}
use Rattle.c_meaning.specs.Filling.{Waiting, next, begun_in}
use Rattle.c_meaning.specs.Initialising.{Initialised, is_scalar_at, whole, typed_items, typed_item, typed_initialiser}
use Rattle.c_meaning.specs.Declaring.{line_of, initialised, with_type_here, typed_alone, typed_lone, typed_inside, at_outside, typed_own_specifiers, typed_name, maybe_initialised, typed_init, typed_inits, typed_declaration}
use Rattle.c_meaning.specs.DeclaringRelation.{TypesItems, TypesItem, TypesInitialiser, TypesMaybeInitialiser, TypesAlone, TypesLone, TypesInside, IsOutside, TypesOwnSpecifiers, TypesName, TypesInit, TypesInits, TypesDeclaration}
use Rattle.c_meaning.specs.Laws.{IsTyping}
use Rattle.c_meaning.proofs.lemmas.Threads.{then_typing, is_typing, at_typing}
use Rattle.c_meaning.proofs.lemmas.TypingRows.{expr_rows, specifiers_rows, declarator_rows}

-- ---- initialisers

mutual
  items_rows : (s : State) (static scalar : Bool) (ws : List Waiting) (is : InitialiserTrees) → IsTyping (typed_items s static scalar ws is) (TypesItems s static scalar ws is)
  items_rows s static scalar ws NoInitialisers = is_typing
  items_rows s static scalar ws (Initialisers i is) = then_typing (item_rows s static scalar ws i) (λ s one. then_typing (items_rows s static scalar one.left is) (λ s more. is_typing))

  item_rows : (s : State) (static scalar : Bool) (ws : List Waiting) (i : InitialiserTree) → IsTyping (typed_item s static scalar ws i) (TypesItem s static scalar ws i)
  item_rows s static scalar ws (ByExpr l e) = then_typing (expr_rows s e) (λ s c. at_typing)
  item_rows s static scalar ws (Braced l items comma) = then_typing (items_rows s static (is_scalar_at (next s.tags ws)) (begun_in s.tags items (next s.tags ws)) items) (λ t inner. at_typing)

pub initialiser_rows : (s : State) (o : Initialised) (i : InitialiserTree) → IsTyping (typed_initialiser s o i) (TypesInitialiser s o i)
initialiser_rows s o (ByExpr l e) = then_typing (expr_rows s e) (λ s c. at_typing)
initialiser_rows s o (Braced l items comma) = then_typing (items_rows s o.static (is_scalar o.of) (begun_in s.tags items (whole s.tags o.of)) items) (λ t inner. at_typing)

maybe_initialiser_rows : (s : State) (o : Initialised) (i : Option InitialiserTree) → IsTyping (maybe_initialised s o i) (TypesMaybeInitialiser s o i)
maybe_initialiser_rows s o None = is_typing
maybe_initialiser_rows s o (Some i) = then_typing (initialiser_rows s o i) (λ s f. is_typing)

-- ---- declarations

alone_rows : (s : State) (line l : ℕ) (k : RecordKind) (tag : List ℕ) → IsTyping (typed_alone s line l k tag) (TypesAlone s line l k tag)
alone_rows s line l k tag = then_typing at_typing (λ s of. at_typing)

lone_rows : (s : State) (specs : SpecifiersTree) → IsTyping (typed_lone s specs) (TypesLone s specs)
lone_rows s (tree.Specified line (Specifiers (tree.RecordTag l k tag) NoSpecifiers)) = alone_rows s line l k tag
lone_rows s specs = specifiers_rows s specs

pub inside_rows : (s : State) (specs : SpecifiersTree) (is : List InitTree) → IsTyping (typed_inside s specs is) (TypesInside s specs is)
inside_rows s specs [] = lone_rows s specs
inside_rows s specs (i ∷ is) = specifiers_rows s specs

pub outside_rows : (outside : Bool) (s : State) (line : ℕ) (b : Specified) → IsTyping (at_outside outside s line b) (IsOutside outside s line b)
outside_rows true s line b = at_typing
outside_rows false s line b = is_typing

own_rows : (s : State) (specs : SpecifiersTree) (is : List InitTree) → IsTyping (typed_own_specifiers s specs is) (TypesOwnSpecifiers s specs is)
own_rows s specs is = then_typing (inside_rows s specs is) (λ s b. outside_rows (is_outside s) s (line_of specs) b)

naming_rows : (s : State) (line : ℕ) (b : Specified) (i : InitTree) → IsTyping (typed_name s line b i) (TypesName s line b i)
naming_rows s line b i = then_typing (declarator_rows s i.declarator) (λ s p. then_typing at_typing (λ s p. at_typing))

init_rows : (s : State) (line : ℕ) (b : Specified) (i : InitTree) → IsTyping (typed_init s line b i) (TypesInit s line b i)
init_rows s line b i = then_typing (naming_rows s line b i) (λ t n. then_typing (maybe_initialiser_rows t (initialised t (with_type_here t n)) i.initialiser) (λ u f. at_typing))

inits_rows : (s : State) (line : ℕ) (b : Specified) (is : List InitTree) → IsTyping (typed_inits s line b is) (TypesInits s line b is)
inits_rows s line b [] = is_typing
inits_rows s line b (i ∷ is) = then_typing (init_rows s line b i) (λ s one. then_typing (inits_rows s line b is) (λ s more. is_typing))

pub declaration_rows : (s : State) (d : DeclarationTree) → IsTyping (typed_declaration s d) (TypesDeclaration s d)
declaration_rows s d = then_typing (own_rows s d.specifiers d.declarators) (λ s b. then_typing (inits_rows s d.line b d.declarators) (λ s what. at_typing))
