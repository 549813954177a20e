-- A declaration: its specifiers, its names in order, and then the declaration itself.
use Rattle.std.proofs.Common.{◌≡◌, ℕ, Bool, true, false, List, length, map, refl, sym, ap, ◌∙◌}
use Rattle.std.specs.Prelude.{Result, Ok, Err, IfErr, IfOk, IsErrAnd, Some}
use Rattle.lcc_base.specs.declared.which.Which.{Which}
use Rattle.c_ast.specs.declared.statement.Declaration.{Declaration as DeclarationValue}
use Rattle.c_ast.specs.declared.statement.InitDeclarator.{InitDeclarator}
use Rattle.c_ast.specs.Seen.{specifiers_seen}
use Rattle.c_ast.specs.SeenUnits.{declaration_seen, init_seen}
use Rattle.c_ast.proofs.lemmas.SeenNodes.{declaration_parts}
use Rattle.c_ast.specs.Trees.{DeclarationTree, InitTree, SpecifiersTree}
use Rattle.c_ast.specs.UnitViews.{declaration_of}
use Rattle.c_symbols.specs.Scoping.{Scoping}
use Rattle.c_types.specs.CType.{CType}
use Rattle.c_types.specs.Table.{Table}
use Rattle.c_meaning.specs.Constraints.{Breaks, Passes}
use Rattle.c_meaning.specs.Declarations.{Declaration, Declares as DeclaresTrees}
use Rattle.c_meaning.specs.Declaring.{at_decl, declares_something, typed_declaration, typed_inits}
use Rattle.c_meaning.specs.DeclaringNodes.{declaration_nodes, first_any}
use Rattle.c_meaning.specs.DeclaringRelation.{TypesDeclaration}
use Rattle.c_meaning.specs.Laws.{IsFirstOf, IsTyping}
use Rattle.c_meaning.specs.State.{State}
use Rattle.c_meaning.specs.TypeRows.{Specified as SpecifiedTree}
use Rattle.c_meaning.specs.Typing.{Outcome, Fine, then_do}
use Rattle.c_values.specs.declared.check_fault.CheckFault.{CheckFault}
use Rattle.c_values.specs.declared.check_fault.CheckFault.TheVariants.{Constraint, Limit}
use Rattle.c_check_expr.specs.declared.parts.Specified.{Specified}
use Rattle.c_check_expr.specs.AtNode.{Tells}
use Rattle.c_check_expr.specs.Kept.{keeps_itself}
use Rattle.c_check_expr.specs.Known.{AreSymbolsIn, state_of}
use Rattle.c_check_expr.specs.PartsSeen.{specified_seen}
use Rattle.c_check_expr.specs.Told.{breaks, passes, relates}
use Rattle.c_check_expr.proofs.lemmas.Walking.{both_go, first_stops, second_stops, walk_as}
use Rattle.c_check_expr.specs.Walks.{IsSpecifiedIn, Walks}
use Rattle.c_check_decl.specs.declared.declares.Declares.{Declares}
use Rattle.c_check_decl.specs.Declares.{AreDeclaredIn, declares_in}
use Rattle.c_check_decl.specs.DeclaredIn.{declaration_in, inits_in, own_specifiers_in}
use Rattle.c_check_decl.proofs.DeclNodes.{decl_breaks, decl_fine}

-- ---- the declaration's own node

node_broken : (u : Scoping) (c : Table) (line : ℕ) (x : Bool) (v : Declares) → x ≡ false → AreSymbolsIn (length c.forms) u.symbols → Walks declares_in AreDeclaredIn (at_decl (state_of u c) line (Declaration x) (state_of u c) (declares_in c v)) u c u c (Err (Constraint 4 line))
node_broken u c line x v e i = record { ok = tt; err = rw e (decl_breaks (state_of u c) line (Declaration false) (state_of u c) (declares_in c v) 4 refl); within = tt; keeps = keeps_itself u c i }

node_fine : (u : Scoping) (c : Table) (line : ℕ) (x : Bool) (v : Declares) → x ≡ true → AreSymbolsIn (length c.forms) u.symbols → AreDeclaredIn (length c.forms) v → Walks declares_in AreDeclaredIn (at_decl (state_of u c) line (Declaration x) (state_of u c) (declares_in c v)) u c u c (Ok v)
node_fine u c line x v e i w = record { ok = rw e (decl_fine (state_of u c) line (Declaration true) (state_of u c) (declares_in c v) refl); err = tt; within = w; keeps = keeps_itself u c i }

-- ---- the walk

module _ (s : Scoping) (a : Table) (d : DeclarationValue) (list : List InitDeclarator) (listed : list ≡ d.declarators) where
  abbrev specs : SpecifiersTree
  specs = specifiers_seen d.specifiers

  abbrev inits : List InitTree
  inits = map init_seen list

  abbrev tree : DeclarationTree
  tree = record { line = d.line; specifiers = specs; declarators = inits }

  tree_is : declaration_seen d ≡ tree
  tree_is = declaration_parts d ∙ ap (λ (l : List InitDeclarator). record { line = d.line; specifiers = specs; declarators = map init_seen l }) (sym listed)

  abbrev names : State → SpecifiedTree → Outcome DeclaresTrees
  names m b = typed_inits m d.line b inits

  abbrev node : State → SpecifiedTree → DeclaresTrees → Outcome DeclaresTrees
  node u b what = at_decl u d.line (Declaration (declares_something tree)) u what

  declaration_is : declaration_in s a (declaration_seen d) ≡ then_do (own_specifiers_in s a specs inits) (λ m b. then_do (names m b) (λ u what. node u b what))
  unfolding declaration_in own_specifiers_in
  declaration_is = ap (typed_declaration (state_of s a)) tree_is

  pub declaration_stops : (u : Scoping) (c : Table) (e : CheckFault) (r : Result Declares CheckFault) → IsErrAnd r (λ x. x ≡ e) → Walks specified_seen IsSpecifiedIn (own_specifiers_in s a specs inits) s a u c (Err e) → Walks declares_in AreDeclaredIn (declaration_in s a (declaration_seen d)) s a u c r
  declaration_stops u c e r h w = walk_as _ _ declaration_is (first_stops declares_in AreDeclaredIn (own_specifiers_in s a specs inits) (λ m b. then_do (names m b) (λ u what. node u b what)) r h w)

  module _ (m : Scoping) (t : Table) (b : Specified) (first : Walks specified_seen IsSpecifiedIn (own_specifiers_in s a specs inits) s a m t (Ok b)) where
    pub declaration_stops_second : (u : Scoping) (c : Table) (e : CheckFault) (r : Result Declares CheckFault) → IsErrAnd r (λ x. x ≡ e) → Walks declares_in AreDeclaredIn (inits_in m t d.line (specified_seen t b) inits) m t u c (Err e) → Walks declares_in AreDeclaredIn (declaration_in s a (declaration_seen d)) s a u c r
    unfolding inits_in
    declaration_stops_second u c e r h w = walk_as _ _ declaration_is (second_stops declares_in AreDeclaredIn (own_specifiers_in s a specs inits) names node r h first w)

    module _ (u : Scoping) (c : Table) (v : Declares) (x : Bool) (second : Walks declares_in AreDeclaredIn (inits_in m t d.line (specified_seen t b) inits) m t u c (Ok v)) (is : x ≡ declares_something (declaration_seen d)) where
      base_stays : specified_seen c b ≡ specified_seen t b
      base_stays = ap (λ (of : CType). record { classes = b.classes; of = of }) (second.keeps.extends.types_stay b.of first.within)

      same : declares_something tree ≡ x
      same = sym (is ∙ ap declares_something tree_is)

      ends : (r : Result Declares CheckFault) → Walks declares_in AreDeclaredIn (node (state_of u c) (specified_seen c b) (declares_in c v)) u c u c r → Walks declares_in AreDeclaredIn (declaration_in s a (declaration_seen d)) s a u c r
      unfolding inits_in
      ends r w = walk_as _ _ declaration_is (both_go declares_in AreDeclaredIn (own_specifiers_in s a specs inits) names node first second base_stays w)

      pub declaration_breaks : x ≡ false → Walks declares_in AreDeclaredIn (declaration_in s a (declaration_seen d)) s a u c (Err (Constraint 4 d.line))
      declaration_breaks e = ends (Err (Constraint 4 d.line)) (node_broken u c d.line (declares_something tree) v (same ∙ e) second.keeps.symbols)

      pub declaration_goes : x ≡ true → Walks declares_in AreDeclaredIn (declaration_in s a (declaration_seen d)) s a u c (Ok v)
      declaration_goes e = ends (Ok v) (node_fine u c d.line (declares_something tree) v (same ∙ e) second.keeps.symbols second.within)

-- ---- what the public call says of it

module _ (s : Scoping) (a : Table) (d : DeclarationValue) where
  pub declaration_typed : (u : Scoping) (b : Table) (r : Result Declares CheckFault) → IsTyping (typed_declaration (state_of s a) (declaration_of d)) (TypesDeclaration (state_of s a) (declaration_of d)) → IfOk r (λ v. declaration_in s a (declaration_seen d) ≡ Fine (state_of u b) (declares_in b v))
      → IfOk r (λ v. TypesDeclaration (state_of s a) (declaration_of d) (state_of u b) (declares_in b v))
  unfolding declaration_in declaration_seen
  declaration_typed u b r h k = relates declares_in (typed_declaration (state_of s a) (declaration_of d)) (TypesDeclaration (state_of s a) (declaration_of d)) u b r h k

  pub constraint_told : (r : Result Declares CheckFault) (n l : ℕ) → IsFirstOf (typed_declaration (state_of s a) (declaration_of d)) (declaration_nodes (state_of s a) (declaration_of d)) → IfErr r (λ e. Tells e (declaration_in s a (declaration_seen d))) → r ≡ Err (Constraint n l)
      → first_any (declaration_nodes (state_of s a) (declaration_of d)) ≡ Some (Breaks n l)
  unfolding declaration_in declaration_seen
  constraint_told r n l h k e = breaks (typed_declaration (state_of s a) (declaration_of d)) (first_any (declaration_nodes (state_of s a) (declaration_of d))) r n l h k e

  pub limit_told : (r : Result Declares CheckFault) (w : Which) (l : ℕ) → IsFirstOf (typed_declaration (state_of s a) (declaration_of d)) (declaration_nodes (state_of s a) (declaration_of d)) → IfErr r (λ e. Tells e (declaration_in s a (declaration_seen d))) → r ≡ Err (Limit w l)
      → first_any (declaration_nodes (state_of s a) (declaration_of d)) ≡ Some (Passes w l)
  unfolding declaration_in declaration_seen
  limit_told r w l h k e = passes (typed_declaration (state_of s a) (declaration_of d)) (first_any (declaration_nodes (state_of s a) (declaration_of d))) r w l h k e
