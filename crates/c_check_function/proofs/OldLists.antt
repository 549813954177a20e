-- Declarations of old-style parameters, and the parameters of one, each one behind the other.
use Rattle.std.proofs.Common.{◌≡◌, ℕ, ◌+◌, ◌<◌, ◌≤◌, Bool, true, false, List, [], ◌∷◌, length, get_or, drop, map, refl, sym, ap, ◌∙◌, subst}
use Rattle.std.specs.Prelude.{Option, Some, None, Result, Ok, Err, IsErrAnd, ◌==◌, not}
use Rattle.c_ast.specs.declared.statement.Declaration.{Declaration}
use Rattle.c_ast.specs.declared.statement.InitDeclarator.{InitDeclarator}
use Rattle.c_ast.specs.Seen.{specifiers_seen}
use Rattle.c_ast.specs.SeenUnits.{declaration_seen, init_seen}
use Rattle.c_ast.proofs.lemmas.SeenNodes.{declaration_parts}
use Rattle.c_ast.specs.Trees.{DeclarationTree, InitTree, SpecifiersTree}
use Rattle.c_symbols.specs.Scoping.{Scoping}
use Rattle.c_types.specs.CType.{CType}
use Rattle.c_types.specs.Table.{Table}
use Rattle.c_meaning.specs.Constraints.{broken_or}
use Rattle.c_meaning.specs.Declaring.{declares_something}
use Rattle.c_meaning.specs.State.{State}
use Rattle.c_meaning.specs.TypeRows.{Specified as SpecifiedTree}
use Rattle.c_meaning.specs.Typing.{Outcome, then_do, unless}
use Rattle.c_values.specs.declared.check_fault.CheckFault.{CheckFault}
use Rattle.c_values.specs.declared.check_fault.CheckFault.TheVariants.{Constraint}
use Rattle.c_check_expr.specs.declared.parts.Specified.{Specified}
use Rattle.c_check_expr.specs.Kept.{keeps_itself}
use Rattle.c_check_expr.specs.Keeps.{Keeps}
use Rattle.c_check_expr.specs.Known.{AreSymbolsIn, state_of}
use Rattle.c_check_expr.specs.PartsSeen.{specified_seen}
use Rattle.c_check_expr.proofs.lemmas.Walking.{both_go, first_stops, passed, second_stops, walk_as}
use Rattle.c_check_expr.proofs.lemmas.WalkLists.{Going, folded, going_ends, going_on, going_starts, going_stops, then_same}
use Rattle.c_check_expr.specs.Walks.{IsSpecifiedIn, Walks}
use Rattle.c_check_decl.specs.DeclaredIn.{inside_in}
use Rattle.c_units.specs.Functions.{has_other, is_some_init, old_declaration_constraint, old_declaration_fault, typed_old, typed_old_declaration, typed_old_declarations, typed_olds}
use Rattle.c_check_function.specs.FunctionsSeen.{no_types, no_value, old_declaration_in, old_declarations_in, old_in, olds_in}
use Rattle.c_check_function.proofs.OwnSteps.{zero_fails}

-- ---- the parameters of a declaration

abbrev one_old : ℕ → List (List ℕ) → SpecifiedTree → State → Unit {0} → InitDeclarator → Outcome (Unit {0})
one_old line names b s v i = typed_old s line names b (init_seen i)

olds_folded : (line : ℕ) (names : List (List ℕ)) (b : SpecifiedTree) (s : State) (v : Unit {0}) (is : List InitDeclarator) → typed_olds s line names b (map init_seen is) ≡ folded (one_old line names b) s v is
olds_folded line names b s v [] = refl
olds_folded line names b s v (i ∷ is) =
    then_same (typed_old s line names b (init_seen i)) (λ m u. typed_olds m line names b (map init_seen is)) (λ m u. folded (one_old line names b) m u is) (λ m u. olds_folded line names b m u is)

unfoldable pub OldsGoing : Scoping → Table → ℕ → List (List ℕ) → Specified → List InitDeclarator → Scoping → Table → List InitDeclarator → Type 0
OldsGoing r a line names base list s t left = Going no_value no_types (one_old line names (specified_seen a base)) (typed_olds (state_of r a) line names (specified_seen a base) (map init_seen list)) r a s t tt left

module _ (r : Scoping) (a : Table) (line : ℕ) (names : List (List ℕ)) (base : Specified) (list : List InitDeclarator) where
  abbrev b : SpecifiedTree
  b = specified_seen a base

  abbrev whole : Outcome (Unit {0})
  whole = typed_olds (state_of r a) line names b (map init_seen list)

  pub olds_start : AreSymbolsIn (length a.forms) r.symbols → OldsGoing r a line names base list r a list
  unfolding OldsGoing
  olds_start i = going_starts no_value no_types (one_old line names b) whole r a tt list i tt (olds_folded line names b (state_of r a) tt list)

  module _ (s : Scoping) (t : Table) (k : ℕ) (x : InitDeclarator) (l : k < length list) (is : x ≡ get_or list k x) (going : OldsGoing r a line names base list s t (drop k list)) (below : base.of < length a.forms) (extended : Keeps r a s t) where
    old_same : old_in s t line names (specified_seen t base) (init_seen x) ≡ one_old line names b (state_of s t) tt x
    unfolding old_in
    old_same = ap (λ (of : CType). typed_old (state_of s t) line names (record { classes = base.classes; of = of }) (init_seen x)) (extended.extends.types_stay base.of below)

    pub olds_on : (u : Scoping) (c : Table) → Walks no_value no_types (old_in s t line names (specified_seen t base) (init_seen x)) s t u c (Ok tt) → OldsGoing r a line names base list u c (drop (k + 1) list)
    unfolding OldsGoing
    olds_on u c h =
        going_on no_value no_types (one_old line names b) whole r a s u t c tt tt list k x l is going
        (subst (λ o. Walks no_value no_types o s t u c (Ok tt)) old_same h)

    pub olds_stop : (u : Scoping) (c : Table) (f : CheckFault) (y : Result (Unit {0}) CheckFault) → IsErrAnd y (λ d. d ≡ f) → Walks no_value no_types (old_in s t line names (specified_seen t base) (init_seen x)) s t u c (Err f) → Walks no_value no_types (olds_in r a line names b (map init_seen list)) r a u c y
    unfolding OldsGoing olds_in
    olds_stop u c f y g h =
        passed y g (going_stops no_value no_types (one_old line names b) whole r a s u t c tt list k x f l is going
        (subst (λ o. Walks no_value no_types o s t u c (Err f)) old_same h))

  pub olds_end : (s : Scoping) (t : Table) (k : ℕ) → length list ≤ k → OldsGoing r a line names base list s t (drop k list) → Walks no_value no_types (olds_in r a line names b (map init_seen list)) r a s t (Ok tt)
  unfolding OldsGoing olds_in
  olds_end s t k l g = going_ends no_value no_types (one_old line names b) whole r a s t tt list k l g

-- ---- a declaration

-- what it breaks, where a listed name is in force as something else than a parameter or none is
abbrev pub broken_by : Bool → DeclarationTree → Option ℕ
broken_by other d = old_declaration_constraint (declares_something d) other (is_some_init d.declarators)

some_init : (is : List InitDeclarator) (b : Bool) → b ≡ (length is == 0) → is_some_init (map init_seen is) ≡ not b
some_init [] b h = ap not (sym h)
some_init (i ∷ is) b h = sym (ap not (h ∙ zero_fails (length is)))

module _ (d : Declaration) (other x : Bool) (is : x ≡ declares_something (declaration_seen d)) where
  abbrev seen : DeclarationTree
  seen = declaration_seen d

  by_something : (y z : Bool) → x ≡ y → other ≡ z → broken_by other seen ≡ old_declaration_constraint y z (is_some_init seen.declarators)
  by_something y z e h =
      ap (λ k. old_declaration_constraint k other (is_some_init seen.declarators)) (sym is ∙ e)
      ∙ ap (λ k. old_declaration_constraint y k (is_some_init seen.declarators)) h

  by_declarators : (b : Bool) → b ≡ (length d.declarators == 0) → is_some_init seen.declarators ≡ not b
  by_declarators b h = ap (λ (t : DeclarationTree). is_some_init t.declarators) (declaration_parts d) ∙ some_init d.declarators b h

  pub nothing_declared : x ≡ false → Some 4 ≡ broken_by other seen
  nothing_declared e = sym (by_something false other e refl)

  pub other_named : x ≡ true → other ≡ true → Some 5 ≡ broken_by other seen
  other_named e h = sym (by_something true true e h)

  pub none_declared : x ≡ true → other ≡ false → true ≡ (length d.declarators == 0) → Some 19 ≡ broken_by other seen
  none_declared e h k = sym (by_something true false e h ∙ ap (old_declaration_constraint true false) (by_declarators true k))

  pub one_declared : x ≡ true → other ≡ false → false ≡ (length d.declarators == 0) → None ≡ broken_by other seen
  one_declared e h k = sym (by_something true false e h ∙ ap (old_declaration_constraint true false) (by_declarators false k))

module _ (s : Scoping) (a : Table) (names : List (List ℕ)) (d : Declaration) (list : List InitDeclarator) (listed : list ≡ d.declarators) where
  abbrev specs : SpecifiersTree
  specs = specifiers_seen d.specifiers

  abbrev inits : List InitTree
  inits = map init_seen list

  abbrev tree : DeclarationTree
  tree = record { line = d.line; specifiers = specs; declarators = inits }

  tree_is : declaration_seen d ≡ tree
  tree_is = declaration_parts d ∙ ap (λ (l : List InitDeclarator). record { line = d.line; specifiers = specs; declarators = map init_seen l }) (sym listed)

  abbrev parameters : State → SpecifiedTree → Outcome (Unit {0})
  parameters m b = typed_olds m d.line names b inits

  abbrev node : State → SpecifiedTree → Unit {0} → Outcome (Unit {0})
  node u b v = unless (old_declaration_fault u d.line names (declares_something tree) (is_some_init inits)) u tt

  declaration_is : old_declaration_in s a names (declaration_seen d) ≡ then_do (inside_in s a specs inits) (λ m b. then_do (parameters m b) (λ u v. node u b v))
  unfolding old_declaration_in inside_in
  declaration_is = ap (typed_old_declaration (state_of s a) names) tree_is

  pub declaration_stops : (u : Scoping) (c : Table) (e : CheckFault) (r : Result (Unit {0}) CheckFault) → IsErrAnd r (λ x. x ≡ e) → Walks specified_seen IsSpecifiedIn (inside_in s a specs inits) s a u c (Err e) → Walks no_value no_types (old_declaration_in s a names (declaration_seen d)) s a u c r
  declaration_stops u c e r h w = walk_as _ _ declaration_is (first_stops no_value no_types (inside_in s a specs inits) (λ m b. then_do (parameters m b) (λ u v. node u b v)) r h w)

  module _ (m : Scoping) (t : Table) (b : Specified) (first : Walks specified_seen IsSpecifiedIn (inside_in s a specs inits) s a m t (Ok b)) where
    pub declaration_stops_second : (u : Scoping) (c : Table) (e : CheckFault) (r : Result (Unit {0}) CheckFault) → IsErrAnd r (λ x. x ≡ e) → Walks no_value no_types (olds_in m t d.line names (specified_seen t b) inits) m t u c (Err e) → Walks no_value no_types (old_declaration_in s a names (declaration_seen d)) s a u c r
    unfolding olds_in
    declaration_stops_second u c e r h w = walk_as _ _ declaration_is (second_stops no_value no_types (inside_in s a specs inits) parameters node r h first w)

    module _ (u : Scoping) (c : Table) (o : Option ℕ) (second : Walks no_value no_types (olds_in m t d.line names (specified_seen t b) inits) m t u c (Ok tt))
        (is : o ≡ broken_by (has_other (state_of u c) names) (declaration_seen d)) where
      base_stays : specified_seen c b ≡ specified_seen t b
      base_stays = ap (λ (of : CType). record { classes = b.classes; of = of }) (second.keeps.extends.types_stay b.of first.within)

      ends : (r : Result (Unit {0}) CheckFault) → Walks no_value no_types (node (state_of u c) (specified_seen c b) tt) u c u c r → Walks no_value no_types (old_declaration_in s a names (declaration_seen d)) s a u c r
      unfolding olds_in
      ends r w = walk_as _ _ declaration_is (both_go no_value no_types (inside_in s a specs inits) parameters node first second base_stays w)

      node_is : (n : Option ℕ) → o ≡ n → node (state_of u c) (specified_seen c b) tt ≡ unless (broken_or d.line n None) (state_of u c) tt
      node_is n e = ap (λ y. unless (broken_or d.line y None) (state_of u c) tt) (ap (broken_by (has_other (state_of u c) names)) (sym tree_is) ∙ sym is ∙ e)

      pub declaration_breaks : (number : ℕ) → o ≡ Some number → Walks no_value no_types (old_declaration_in s a names (declaration_seen d)) s a u c (Err (Constraint number d.line))
      declaration_breaks number e = ends (Err (Constraint number d.line)) (record { ok = tt; err = node_is (Some number) e; within = tt; keeps = keeps_itself u c second.keeps.symbols })

      pub declaration_goes : o ≡ None → Walks no_value no_types (old_declaration_in s a names (declaration_seen d)) s a u c (Ok tt)
      declaration_goes e = ends (Ok tt) (record { ok = node_is None e; err = tt; within = tt; keeps = keeps_itself u c second.keeps.symbols })

-- ---- declarations

abbrev one_declaration : List (List ℕ) → State → Unit {0} → Declaration → Outcome (Unit {0})
one_declaration names s v d = typed_old_declaration s names (declaration_seen d)

declarations_folded : (names : List (List ℕ)) (s : State) (v : Unit {0}) (ds : List Declaration) → typed_old_declarations s names (map declaration_seen ds) ≡ folded (one_declaration names) s v ds
declarations_folded names s v [] = refl
declarations_folded names s v (d ∷ ds) =
    then_same (typed_old_declaration s names (declaration_seen d)) (λ m u. typed_old_declarations m names (map declaration_seen ds)) (λ m u. folded (one_declaration names) m u ds) (λ m u. declarations_folded names m u ds)

unfoldable pub DeclarationsGoing : Scoping → Table → List (List ℕ) → List Declaration → Scoping → Table → List Declaration → Type 0
DeclarationsGoing r a names list s t left = Going no_value no_types (one_declaration names) (typed_old_declarations (state_of r a) names (map declaration_seen list)) r a s t tt left

module _ (r : Scoping) (a : Table) (names : List (List ℕ)) (list : List Declaration) where
  abbrev all : Outcome (Unit {0})
  all = typed_old_declarations (state_of r a) names (map declaration_seen list)

  pub declarations_start : AreSymbolsIn (length a.forms) r.symbols → DeclarationsGoing r a names list r a list
  unfolding DeclarationsGoing
  declarations_start i = going_starts no_value no_types (one_declaration names) all r a tt list i tt (declarations_folded names (state_of r a) tt list)

  module _ (s : Scoping) (t : Table) (k : ℕ) (x : Declaration) (l : k < length list) (is : x ≡ get_or list k x) (going : DeclarationsGoing r a names list s t (drop k list)) where
    pub declarations_on : (u : Scoping) (c : Table) → Walks no_value no_types (old_declaration_in s t names (declaration_seen x)) s t u c (Ok tt) → DeclarationsGoing r a names list u c (drop (k + 1) list)
    unfolding DeclarationsGoing old_declaration_in
    declarations_on u c h = going_on no_value no_types (one_declaration names) all r a s u t c tt tt list k x l is going h

    pub declarations_stop : (u : Scoping) (c : Table) (f : CheckFault) (y : Result (Unit {0}) CheckFault) → IsErrAnd y (λ d. d ≡ f) → Walks no_value no_types (old_declaration_in s t names (declaration_seen x)) s t u c (Err f) → Walks no_value no_types (old_declarations_in r a names (map declaration_seen list)) r a u c y
    unfolding DeclarationsGoing old_declaration_in old_declarations_in
    declarations_stop u c f y g h = passed y g (going_stops no_value no_types (one_declaration names) all r a s u t c tt list k x f l is going h)

  pub declarations_end : (s : Scoping) (t : Table) (k : ℕ) → length list ≤ k → DeclarationsGoing r a names list s t (drop k list) → Walks no_value no_types (old_declarations_in r a names (map declaration_seen list)) r a s t (Ok tt)
  unfolding DeclarationsGoing old_declarations_in
  declarations_end s t k l g = going_ends no_value no_types (one_declaration names) all r a s t tt list k l g
