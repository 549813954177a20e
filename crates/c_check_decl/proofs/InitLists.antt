-- The names of a declaration, one behind the other: what came of the front of the list, and what is left.
use Rattle.std.proofs.Common.{◌≡◌, ℕ, ◌+◌, ◌<◌, ◌≤◌, List, [], ◌∷◌, length, get_or, drop, map, sym, ap, ◌∙◌, subst}
use Rattle.std.specs.Prelude.{Result, Ok, Err, IsErrAnd}
use Rattle.c_ast.specs.declared.statement.InitDeclarator.{InitDeclarator}
use Rattle.c_ast.specs.SeenUnits.{init_seen}
use Rattle.c_symbols.specs.Scoping.{Scoping}
use Rattle.c_types.specs.CType.{CType}
use Rattle.c_types.specs.Table.{Table}
use Rattle.c_meaning.specs.Declarations.{Declares as DeclaresTrees, nothing, together}
use Rattle.c_meaning.specs.Declaring.{typed_init, typed_inits}
use Rattle.c_meaning.specs.State.{State}
use Rattle.c_meaning.specs.TypeRows.{Specified as SpecifiedTree}
use Rattle.c_meaning.specs.Typing.{Outcome, Fine, then_do}
use Rattle.c_values.specs.declared.check_fault.CheckFault.{CheckFault}
use Rattle.c_check_expr.specs.declared.parts.Specified.{Specified}
use Rattle.c_check_expr.specs.Keeps.{Keeps}
use Rattle.c_check_expr.specs.Known.{AreSymbolsIn, state_of}
use Rattle.c_check_expr.specs.PartsSeen.{specified_seen}
use Rattle.c_check_expr.proofs.lemmas.Walking.{passed, walk_stop}
use Rattle.c_check_expr.proofs.lemmas.WalkLists.{Going, folded, going_ends, going_on, going_starts, going_stops, then_fine, then_same, then_then}
use Rattle.c_check_expr.specs.Walks.{Walks}
use Rattle.c_check_decl.specs.declared.declares.Declares.{Declares}
use Rattle.c_check_decl.specs.Declares.{AreDeclaredIn, declares_in}
use Rattle.c_check_decl.specs.DeclaredIn.{init_in, inits_in}
use Rattle.c_check_decl.proofs.lemmas.DeclaresStay.{declares_later, declares_stay, together_assoc, together_nothing}

-- ---- a list by steps

module _ (line : ℕ) (b : SpecifiedTree) where
  abbrev step : State → DeclaresTrees → InitDeclarator → Outcome DeclaresTrees
  step s done i = then_do (typed_init s line b (init_seen i)) (λ m one. Fine m (together done one))

  -- what is typed of all of them, behind what is declared already
  inits_folded : (s : State) (done : DeclaresTrees) (is : List InitDeclarator) → folded step s done is ≡ then_do (typed_inits s line b (map init_seen is)) (λ u more. Fine u (together done more))
  inits_folded s done [] = ap (Fine s) (sym (together_nothing done))
  inits_folded s done (i ∷ is) =
      then_then (typed_init s line b (init_seen i)) (λ m one. Fine m (together done one)) (λ m u. folded step m u is)
      ∙ then_same (typed_init s line b (init_seen i)) (λ m one. folded step m (together done one) is) (λ m one. then_do (typed_inits m line b (map init_seen is)) (λ u more. Fine u (together done (together one more))))
      (λ m one. inits_folded m (together done one) is
      ∙ then_same (typed_inits m line b (map init_seen is)) (λ u more. Fine u (together (together done one) more)) (λ u more. Fine u (together done (together one more))) (λ u more. ap (Fine u) (together_assoc done one more)))
      ∙ sym (then_then (typed_init s line b (init_seen i)) (λ m one. then_do (typed_inits m line b (map init_seen is)) (λ u more. Fine u (together one more))) (λ u more. Fine u (together done more))
      ∙ then_same (typed_init s line b (init_seen i)) (λ m one. then_do (then_do (typed_inits m line b (map init_seen is)) (λ u more. Fine u (together one more))) (λ u more. Fine u (together done more)))
      (λ m one. then_do (typed_inits m line b (map init_seen is)) (λ u more. Fine u (together done (together one more))))
      (λ m one. then_then (typed_inits m line b (map init_seen is)) (λ u more. Fine u (together one more)) (λ u more. Fine u (together done more))))

-- ---- the loop

unfoldable pub InitsGoing : Scoping → Table → ℕ → Specified → List InitDeclarator → Scoping → Table → Declares → List InitDeclarator → Type 0
InitsGoing r a line base list s t done left = Going declares_in AreDeclaredIn (step line (specified_seen a base)) (typed_inits (state_of r a) line (specified_seen a base) (map init_seen list)) r a s t done left

module _ (r : Scoping) (a : Table) (line : ℕ) (base : Specified) (list : List InitDeclarator) where
  abbrev b : SpecifiedTree
  b = specified_seen a base

  abbrev whole : Outcome DeclaresTrees
  whole = typed_inits (state_of r a) line b (map init_seen list)

  pub inits_start : (start : Declares) → AreSymbolsIn (length a.forms) r.symbols → declares_in a start ≡ nothing → AreDeclaredIn (length a.forms) start → InitsGoing r a line base list r a start list
  unfolding InitsGoing
  inits_start start i e w =
      going_starts declares_in AreDeclaredIn (step line b) whole r a start list i w
      (sym (ap (λ d. folded (step line b) (state_of r a) d list) e ∙ inits_folded line b (state_of r a) nothing list ∙ then_fine whole))

  module _ (s : Scoping) (t : Table) (done : Declares) (k : ℕ) (x : InitDeclarator) (l : k < length list) (is : x ≡ get_or list k x) (going : InitsGoing r a line base list s t done (drop k list)) (below : base.of < length a.forms) (extended : Keeps r a s t) where
    base_stays : specified_seen t base ≡ b
    base_stays = ap (λ (of : CType). record { classes = base.classes; of = of }) (extended.extends.types_stay base.of below)

    init_same : init_in s t line (specified_seen t base) (init_seen x) ≡ typed_init (state_of s t) line b (init_seen x)
    unfolding init_in
    init_same = ap (λ (c : SpecifiedTree). typed_init (state_of s t) line c (init_seen x)) base_stays

    -- what is declared is seen the same over the later table
    one_more : (u : Scoping) (c : Table) (one all : Declares) → AreDeclaredIn (length t.forms) done → Walks declares_in AreDeclaredIn (typed_init (state_of s t) line b (init_seen x)) s t u c (Ok one) → declares_in c all ≡ together (declares_in c done) (declares_in c one)
        → (AreDeclaredIn (length c.forms) done → AreDeclaredIn (length c.forms) one → AreDeclaredIn (length c.forms) all) → Walks declares_in AreDeclaredIn (step line b (state_of s t) (declares_in t done) x) s t u c (Ok all)
    one_more u c one all w h e i =
        record {
          ok = ap (λ o. then_do o (λ m v. Fine m (together (declares_in t done) v))) h.ok
              ∙ ap (λ v. Fine (state_of u c) (together v (declares_in c one))) (sym (declares_stay t c h.keeps.extends done w))
              ∙ ap (Fine (state_of u c)) (sym e);
          err = tt;
          within = i (declares_later t c h.keeps.extends done w) h.within;
          keeps = h.keeps;
        }

    pub inits_on : (u : Scoping) (c : Table) (one all : Declares) → Walks declares_in AreDeclaredIn (init_in s t line (specified_seen t base) (init_seen x)) s t u c (Ok one) → declares_in c all ≡ together (declares_in c done) (declares_in c one)
        → (AreDeclaredIn (length c.forms) done → AreDeclaredIn (length c.forms) one → AreDeclaredIn (length c.forms) all) → InitsGoing r a line base list u c all (drop (k + 1) list)
    unfolding InitsGoing
    inits_on u c one all h e i =
        going_on declares_in AreDeclaredIn (step line b) whole r a s u t c done all list k x l is going
        (one_more u c one all going.within (subst (λ o. Walks declares_in AreDeclaredIn o s t u c (Ok one)) init_same h) e i)

    pub inits_stop : (u : Scoping) (c : Table) (f : CheckFault) (y : Result Declares CheckFault) → IsErrAnd y (λ d. d ≡ f) → Walks declares_in AreDeclaredIn (init_in s t line (specified_seen t base) (init_seen x)) s t u c (Err f) → Walks declares_in AreDeclaredIn (inits_in r a line b (map init_seen list)) r a u c y
    unfolding InitsGoing inits_in
    inits_stop u c f y g h =
        passed y g (going_stops declares_in AreDeclaredIn (step line b) whole r a s u t c done list k x f l is going
        (walk_stop declares_in AreDeclaredIn (typed_init (state_of s t) line b (init_seen x)) (λ m one. Fine m (together (declares_in t done) one)) s u t c f
        (subst (λ o. Walks declares_in AreDeclaredIn o s t u c (Err f)) init_same h)))

  pub inits_end : (s : Scoping) (t : Table) (done : Declares) (k : ℕ) → length list ≤ k → InitsGoing r a line base list s t done (drop k list) → Walks declares_in AreDeclaredIn (inits_in r a line b (map init_seen list)) r a s t (Ok done)
  unfolding InitsGoing inits_in
  inits_end s t done k l g = going_ends declares_in AreDeclaredIn (step line b) whole r a s t done list k l g
