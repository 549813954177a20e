-- The initialiser of a declared name, if it has one: what the public contract of its checker says, as a walk.
use Rattle.std.proofs.Common.{◌≡◌, ℕ, List, length, refl, sym, ap, ◌∙◌, subst}
use Rattle.std.specs.Prelude.{Option, Some, None, Result, Ok, Err, IfOk, IfErr, IsErrAnd}
use Rattle.std.specs.Global.{Box}
use Rattle.lcc_base.specs.declared.which.Which.{Which}
use Rattle.c_ast.specs.declared.statement.Initialiser.{Initialiser as InitialiserValue}
use Rattle.c_ast.specs.Trees.{InitialiserTree}
use Rattle.c_ast.specs.SeenUnits.{boxed_initialiser_seen, initialiser_seen}
use Rattle.c_ast.specs.UnitViews.{initialiser_of, option_of}
use Rattle.c_symbols.specs.Scoping.{Scoping}
use Rattle.c_types.specs.Table.{Table}
use Rattle.c_meaning.specs.Constraints.{Breaks, Fault, Passes}
use Rattle.c_meaning.specs.DeclaringNodes.{AnyPlace, first_any, initialiser_nodes}
use Rattle.c_meaning.specs.DeclaringRelation.{TypesInitialiser}
use Rattle.c_meaning.specs.Initialising.{Filled as FilledTrees, Initialised, typed_initialiser}
use Rattle.c_meaning.specs.Laws.{IsFirstOf, IsTyping}
use Rattle.c_meaning.specs.State.{State}
use Rattle.c_meaning.specs.Typing.{Bad, Fine, Outcome, then_do}
use Rattle.c_values.specs.declared.check_fault.CheckFault.{CheckFault}
use Rattle.c_values.specs.declared.check_fault.CheckFault.TheVariants.{Constraint, Limit, Memory}
use Rattle.c_check_expr.specs.AtNode.{Tells}
use Rattle.c_check_expr.specs.Keeps.{Keeps}
use Rattle.c_check_expr.specs.Known.{AreSymbolsIn, state_of}
use Rattle.c_check_expr.proofs.lemmas.Walking.{first_stops, walk_as, walk_none, walk_then}
use Rattle.c_check_expr.specs.Walks.{Walks}
use Rattle.c_initialisers.specs.declared.filled.Filled.{Filled}
use Rattle.c_initialisers.specs.Objects.{IsFilledIn, filled_in}
use Rattle.c_check_decl.specs.DeclaredIn.{maybe_in}
use Rattle.c_check_decl.specs.Declares.{IsMaybeFilledIn, maybe_filled_in}

-- ---- from the relation to the function

typed_from : {V T : Type 0} (view : Table → V → T) (o : Outcome T) (types : State → T → Type 0) (u : Scoping) (b : Table) (r : Result V CheckFault) → IsTyping o types → IfOk r (λ v. types (state_of u b) (view b v)) → IfOk r (λ v. o ≡ Fine (state_of u b) (view b v))
typed_from view o types u b (Ok v) h k = (h (state_of u b) (view b v)).0 k
typed_from view o types u b (Err e) h k = tt

-- the outcome whose fault this is
bad_of : {T : Type 0} (o : Outcome T) (places : List AnyPlace) (f : Fault) → IsFirstOf o places → first_any places ≡ Some f → o ≡ Bad f
bad_of (Fine s t) places f h e = absurd (cc)
bad_of (Bad g) places f h e = cc

told_from : {V T : Type 0} (o : Outcome T) (places : List AnyPlace) (r : Result V CheckFault) → IsFirstOf o places → ((n l : ℕ) → r ≡ Err (Constraint n l) → first_any places ≡ Some (Breaks n l)) → ((w : Which) → (l : ℕ) → r ≡ Err (Limit w l) → first_any places ≡ Some (Passes w l)) → IfErr r (λ e. Tells e o)
told_from o places (Ok v) h k m = tt
told_from o places (Err (Constraint n l)) h k m = bad_of o places (Breaks n l) h (k n l refl)
told_from o places (Err (Limit w l)) h k m = bad_of o places (Passes w l) h (m w l refl)
told_from o places (Err Memory) h k m = tt

pub walk_initialiser : (s u : Scoping) (a b : Table) (o : Initialised) (i : InitialiserValue) (r : Result Filled CheckFault)
    → IsTyping (typed_initialiser (state_of s a) o (initialiser_of i)) (TypesInitialiser (state_of s a) o (initialiser_of i)) → IsFirstOf (typed_initialiser (state_of s a) o (initialiser_of i)) (initialiser_nodes (state_of s a) o (initialiser_of i))
    → IfOk r (λ f. TypesInitialiser (state_of s a) o (initialiser_of i) (state_of u b) (filled_in b f))
    → ((n l : ℕ) → r ≡ Err (Constraint n l) → first_any (initialiser_nodes (state_of s a) o (initialiser_of i)) ≡ Some (Breaks n l))
    → ((w : Which) → (l : ℕ) → r ≡ Err (Limit w l) → first_any (initialiser_nodes (state_of s a) o (initialiser_of i)) ≡ Some (Passes w l))
    → IfOk r (IsFilledIn (length b.forms)) → Keeps s a u b → Walks filled_in IsFilledIn (typed_initialiser (state_of s a) o (initialiser_seen i)) s a u b r
unfolding initialiser_seen
walk_initialiser s u a b o i r h first typed breaks passes within keeps =
    record {
      ok = typed_from filled_in (typed_initialiser (state_of s a) o (initialiser_of i)) (TypesInitialiser (state_of s a) o (initialiser_of i)) u b r h typed;
      err = told_from (typed_initialiser (state_of s a) o (initialiser_of i)) (initialiser_nodes (state_of s a) o (initialiser_of i)) r first breaks passes;
      within = within;
      keeps = keeps;
    }

-- ---- where there may be none

none_is : (s : Scoping) (a : Table) (o : Initialised) → maybe_in s a o None ≡ Fine (state_of s a) None
unfolding maybe_in
none_is s a o = refl

none_goes : (s : Scoping) (a : Table) (o : Initialised) → AreSymbolsIn (length a.forms) s.symbols → Walks maybe_filled_in IsMaybeFilledIn (maybe_in s a o None) s a s a (Ok None)
none_goes s a o i = walk_as (Fine (state_of s a) None) (maybe_in s a o None) (none_is s a o) (walk_none maybe_filled_in IsMaybeFilledIn s a None i tt)

abbrev some_filled : State → FilledTrees → Outcome (Option FilledTrees)
some_filled m f = Fine m (Some f)

some_is : (s : Scoping) (a : Table) (o : Initialised) (i : InitialiserTree) → maybe_in s a o (Some i) ≡ then_do (typed_initialiser (state_of s a) o i) some_filled
unfolding maybe_in
some_is s a o i = refl

pub some_stops : (s u : Scoping) (a b : Table) (o : Initialised) (i : InitialiserTree) (e : CheckFault) (r : Result (Option Filled) CheckFault) → IsErrAnd r (λ d. d ≡ e) → Walks filled_in IsFilledIn (typed_initialiser (state_of s a) o i) s a u b (Err e)
    → Walks maybe_filled_in IsMaybeFilledIn (maybe_in s a o (Some i)) s a u b r
some_stops s u a b o i e r h w =
    walk_as (then_do (typed_initialiser (state_of s a) o i) some_filled) (maybe_in s a o (Some i)) (some_is s a o i) (first_stops maybe_filled_in IsMaybeFilledIn (typed_initialiser (state_of s a) o i) some_filled r h w)

pub some_goes : (s u : Scoping) (a b : Table) (o : Initialised) (i : InitialiserTree) (f : Filled) → Walks filled_in IsFilledIn (typed_initialiser (state_of s a) o i) s a u b (Ok f) → Walks maybe_filled_in IsMaybeFilledIn (maybe_in s a o (Some i)) s a u b (Ok (Some f))
some_goes s u a b o i f w =
    walk_as (then_do (typed_initialiser (state_of s a) o i) some_filled) (maybe_in s a o (Some i)) (some_is s a o i)
    (walk_then maybe_filled_in IsMaybeFilledIn (typed_initialiser (state_of s a) o i) some_filled s u u a b b f (Ok (Some f)) w (walk_none maybe_filled_in IsMaybeFilledIn u b (Some f) w.keeps.symbols w.within))

-- the syntax of it
pub maybe_as : (s u : Scoping) (a b : Table) (o : Initialised) (r : Result (Option Filled) CheckFault) (v : Option (Box InitialiserValue)) (i : Box InitialiserValue) (w : InitialiserValue) → v ≡ Some i → w ≡ i.value
    → Walks maybe_filled_in IsMaybeFilledIn (maybe_in s a o (Some (initialiser_seen w))) s a u b r → Walks maybe_filled_in IsMaybeFilledIn (maybe_in s a o (option_of boxed_initialiser_seen v)) s a u b r
maybe_as s u a b o r v i w h k x =
    subst (λ (t : Option InitialiserTree). Walks maybe_filled_in IsMaybeFilledIn (maybe_in s a o t) s a u b r) (sym (ap (option_of boxed_initialiser_seen) h ∙ ap (λ y. Some (initialiser_seen y)) (sym k))) x

pub maybe_none : (s : Scoping) (a : Table) (o : Initialised) (v : Option (Box InitialiserValue)) → v ≡ None → AreSymbolsIn (length a.forms) s.symbols → Walks maybe_filled_in IsMaybeFilledIn (maybe_in s a o (option_of boxed_initialiser_seen v)) s a s a (Ok None)
maybe_none s a o None h i = none_goes s a o i
maybe_none s a o (Some x) h i = absurd (cc)
