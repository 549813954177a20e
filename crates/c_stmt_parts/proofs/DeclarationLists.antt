-- Declarations one behind the other: what came of the front of the list, and what is left.
use Rattle.std.proofs.Common.{◌≡◌, ℕ, ◌+◌, ◌<◌, ◌≤◌, List, [], ◌∷◌, length, get_or, drop, map, sym, ap, ◌∙◌, refl, subst}
use Rattle.std.specs.Prelude.{Result, Ok, Err, IsErrAnd}
use Rattle.c_ast.specs.declared.statement.Declaration.{Declaration}
use Rattle.c_ast.specs.SeenUnits.{declaration_seen}
use Rattle.c_symbols.specs.Scoping.{Scoping}
use Rattle.c_types.specs.Table.{Table}
use Rattle.c_meaning.specs.Declarations.{Declares as DeclaresTrees, nothing, together}
use Rattle.c_meaning.specs.Declaring.{typed_declaration}
use Rattle.c_meaning.specs.State.{State}
use Rattle.c_meaning.specs.Typing.{Outcome, Fine, then_do}
use Rattle.c_values.specs.declared.check_fault.CheckFault.{CheckFault}
use Rattle.c_check_expr.specs.Known.{AreSymbolsIn, state_of}
use Rattle.c_check_expr.proofs.lemmas.Walking.{passed, walk_stop}
use Rattle.c_check_expr.proofs.lemmas.WalkLists.{Going, folded, going_ends, going_on, going_starts, going_stops, then_fine, then_same, then_then}
use Rattle.c_check_expr.specs.Walks.{Walks}
use Rattle.c_units.specs.Bodies.{typed_declarations}
use Rattle.c_check_decl.specs.declared.declares.Declares.{Declares}
use Rattle.c_check_decl.specs.Declares.{AreDeclaredIn, declares_in}
use Rattle.c_check_decl.specs.DeclaredIn.{declaration_in}
use Rattle.c_check_decl.proofs.lemmas.DeclaresStay.{declares_later, declares_stay, together_assoc, together_nothing}
use Rattle.c_stmt_parts.specs.StatementsIn.{declarations_in}

-- ---- a list by steps

abbrev step : State → DeclaresTrees → Declaration → Outcome DeclaresTrees
step s done d = then_do (typed_declaration s (declaration_seen d)) (λ m one. Fine m (together done one))

-- what is typed of all of them, behind what is declared already
declarations_folded : (s : State) (done : DeclaresTrees) (ds : List Declaration) → folded step s done ds ≡ then_do (typed_declarations s (map declaration_seen ds)) (λ u more. Fine u (together done more))
declarations_folded s done [] = ap (Fine s) (sym (together_nothing done))
declarations_folded s done (d ∷ ds) =
    then_then (typed_declaration s (declaration_seen d)) (λ m one. Fine m (together done one)) (λ m u. folded step m u ds)
    ∙ then_same (typed_declaration s (declaration_seen d)) (λ m one. folded step m (together done one) ds) (λ m one. then_do (typed_declarations m (map declaration_seen ds)) (λ u more. Fine u (together done (together one more))))
    (λ m one. declarations_folded m (together done one) ds
    ∙ then_same (typed_declarations m (map declaration_seen ds)) (λ u more. Fine u (together (together done one) more)) (λ u more. Fine u (together done (together one more))) (λ u more. ap (Fine u) (together_assoc done one more)))
    ∙ sym (then_then (typed_declaration s (declaration_seen d)) (λ m one. then_do (typed_declarations m (map declaration_seen ds)) (λ u more. Fine u (together one more))) (λ u more. Fine u (together done more))
    ∙ then_same (typed_declaration s (declaration_seen d)) (λ m one. then_do (then_do (typed_declarations m (map declaration_seen ds)) (λ u more. Fine u (together one more))) (λ u more. Fine u (together done more)))
    (λ m one. then_do (typed_declarations m (map declaration_seen ds)) (λ u more. Fine u (together done (together one more))))
    (λ m one. then_then (typed_declarations m (map declaration_seen ds)) (λ u more. Fine u (together one more)) (λ u more. Fine u (together done more))))

-- ---- the loop

unfoldable pub DeclarationsGoing : Scoping → Table → List Declaration → Scoping → Table → Declares → List Declaration → Type 0
DeclarationsGoing r a list s t done left = Going declares_in AreDeclaredIn step (typed_declarations (state_of r a) (map declaration_seen list)) r a s t done left

module _ (r : Scoping) (a : Table) (list : List Declaration) where
  abbrev whole : Outcome DeclaresTrees
  whole = typed_declarations (state_of r a) (map declaration_seen list)

  pub declarations_start : (start : Declares) → AreSymbolsIn (length a.forms) r.symbols → declares_in a start ≡ nothing → AreDeclaredIn (length a.forms) start → DeclarationsGoing r a list r a start list
  unfolding DeclarationsGoing
  declarations_start start i e w =
      going_starts declares_in AreDeclaredIn step whole r a start list i w
      (sym (ap (λ d. folded step (state_of r a) d list) e ∙ declarations_folded (state_of r a) nothing list ∙ then_fine whole))

  module _ (s : Scoping) (t : Table) (done : Declares) (k : ℕ) (x : Declaration) (l : k < length list) (is : x ≡ get_or list k x) (going : DeclarationsGoing r a list s t done (drop k list)) where
    declaration_same : declaration_in s t (declaration_seen x) ≡ typed_declaration (state_of s t) (declaration_seen x)
    unfolding declaration_in
    declaration_same = refl

    -- what is declared is seen the same over the later table
    one_more : (u : Scoping) (c : Table) (one all : Declares) → AreDeclaredIn (length t.forms) done → Walks declares_in AreDeclaredIn (typed_declaration (state_of s t) (declaration_seen x)) s t u c (Ok one) → declares_in c all ≡ together (declares_in c done) (declares_in c one)
        → (AreDeclaredIn (length c.forms) done → AreDeclaredIn (length c.forms) one → AreDeclaredIn (length c.forms) all) → Walks declares_in AreDeclaredIn (step (state_of s t) (declares_in t done) x) s t u c (Ok all)
    one_more u c one all w h e i =
        record {
          ok = ap (λ o. then_do o (λ m v. Fine m (together (declares_in t done) v))) h.ok
              ∙ ap (λ v. Fine (state_of u c) (together v (declares_in c one))) (sym (declares_stay t c h.keeps.extends done w))
              ∙ ap (Fine (state_of u c)) (sym e);
          err = tt;
          within = i (declares_later t c h.keeps.extends done w) h.within;
          keeps = h.keeps;
        }

    pub declarations_on : (u : Scoping) (c : Table) (one all : Declares) → Walks declares_in AreDeclaredIn (declaration_in s t (declaration_seen x)) s t u c (Ok one) → declares_in c all ≡ together (declares_in c done) (declares_in c one)
        → (AreDeclaredIn (length c.forms) done → AreDeclaredIn (length c.forms) one → AreDeclaredIn (length c.forms) all) → DeclarationsGoing r a list u c all (drop (k + 1) list)
    unfolding DeclarationsGoing
    declarations_on u c one all h e i =
        going_on declares_in AreDeclaredIn step whole r a s u t c done all list k x l is going
        (one_more u c one all going.within (subst (λ o. Walks declares_in AreDeclaredIn o s t u c (Ok one)) declaration_same h) e i)

    pub declarations_stop : (u : Scoping) (c : Table) (f : CheckFault) (y : Result Declares CheckFault) → IsErrAnd y (λ d. d ≡ f) → Walks declares_in AreDeclaredIn (declaration_in s t (declaration_seen x)) s t u c (Err f) → Walks declares_in AreDeclaredIn (declarations_in r a (map declaration_seen list)) r a u c y
    unfolding DeclarationsGoing declarations_in
    declarations_stop u c f y g h =
        passed y g (going_stops declares_in AreDeclaredIn step whole r a s u t c done list k x f l is going
        (walk_stop declares_in AreDeclaredIn (typed_declaration (state_of s t) (declaration_seen x)) (λ m one. Fine m (together (declares_in t done) one)) s u t c f
        (subst (λ o. Walks declares_in AreDeclaredIn o s t u c (Err f)) declaration_same h)))

  pub declarations_end : (s : Scoping) (t : Table) (done : Declares) (k : ℕ) → length list ≤ k → DeclarationsGoing r a list s t done (drop k list) → Walks declares_in AreDeclaredIn (declarations_in r a (map declaration_seen list)) r a s t (Ok done)
  unfolding DeclarationsGoing declarations_in
  declarations_end s t done k l g = going_ends declares_in AreDeclaredIn step whole r a s t done list k l g
