-- A name of a declaration: its declarator, its initialiser, and the whole.
use Rattle.std.proofs.Common.{◌≡◌, ℕ, ◌<◌, Option, length, sym, ap, ◌∙◌}
use Rattle.std.specs.Prelude.{Result, Ok, Err, IsErrAnd}
use Rattle.c_ast.specs.declared.statement.InitDeclarator.{InitDeclarator}
use Rattle.c_ast.specs.Seen.{declarator_seen}
use Rattle.c_ast.specs.SeenUnits.{boxed_initialiser_seen, init_seen}
use Rattle.c_ast.proofs.lemmas.SeenNodes.{init_parts}
use Rattle.c_ast.specs.Trees.{InitialiserTree}
use Rattle.c_ast.specs.UnitViews.{option_of}
use Rattle.c_symbols.specs.Scoping.{Scoping}
use Rattle.c_types.specs.CType.{CType}
use Rattle.c_types.specs.Table.{Table, type_at}
use Rattle.c_meaning.specs.Declarations.{Declares as DeclaresTrees, Naming as NamingTrees}
use Rattle.c_meaning.specs.Declaring.{at_whole, initialised, maybe_initialised, type_filled, type_here, typed_init, with_type, with_type_here}
use Rattle.c_meaning.specs.Initialising.{Filled as FilledTrees}
use Rattle.c_meaning.specs.Linkage.{local_count}
use Rattle.c_meaning.specs.State.{State, place_here}
use Rattle.c_meaning.specs.TypeRows.{Specified}
use Rattle.c_meaning.specs.Typing.{Outcome, then_do}
use Rattle.c_values.specs.declared.check_fault.CheckFault.{CheckFault}
use Rattle.c_check_expr.specs.Known.{state_of}
use Rattle.c_check_expr.proofs.lemmas.Walking.{first_stops, walk_as, walk_then}
use Rattle.c_check_expr.specs.Walks.{Walks}
use Rattle.c_initialisers.specs.declared.filled.Filled.{Filled}
use Rattle.c_initialisers.specs.declared.public.Initialised.{Initialised}
use Rattle.c_initialisers.specs.Objects.{object_in}
use Rattle.c_check_decl.specs.declared.declares.Declares.{Declares}
use Rattle.c_check_decl.specs.declared.naming.Naming.{Naming}
use Rattle.c_check_decl.specs.Declares.{AreDeclaredIn, IsMaybeFilledIn, declares_in, maybe_filled_in}
use Rattle.c_check_decl.specs.DeclaredIn.{init_in, maybe_in, name_in, named_at}
use Rattle.c_check_decl.specs.Named.{IsNamingIn, linked, naming_in}

-- ---- the type of a name

abbrev of_type : Naming → ℕ → Naming
of_type n of = record { class = n.class; name = n.name; of = of; linkage = n.linkage }

abbrev named_as : Naming → CType → NamingTrees
named_as n t = record { class = n.class; name = n.name; of = t; linkage = linked n.linkage }

-- what its initialiser is for
object_is : (m : Scoping) (b : Table) (n : Naming) (of : ℕ) (o : Initialised) → type_at b of ≡ type_here (state_of m b) (place_here (state_of m b) n.name) (type_at b n.of) → object_in b o ≡ initialised (state_of m b) (naming_in b (of_type n of))
    → object_in b o ≡ initialised (state_of m b) (with_type_here (state_of m b) (naming_in b n))
object_is m b n of o h e = e ∙ ap (λ t. initialised (state_of m b) (named_as n t)) h

-- and with the type that this gives it
filled_is : (m : Scoping) (b c : Table) (n : Naming) (of whole : ℕ) (f : Option FilledTrees) → type_at b of ≡ type_here (state_of m b) (place_here (state_of m b) n.name) (type_at b n.of) → type_at c of ≡ type_at b of → type_at c whole ≡ type_filled (type_at c of) f
    → naming_in c (of_type n whole) ≡ with_type (naming_in b n) (type_filled (with_type_here (state_of m b) (naming_in b n)).of f)
filled_is m b c n of whole f h k e = ap (named_as n) (e ∙ ap (λ t. type_filled t f) (k ∙ h))

-- ---- the walk

-- what comes behind the declarator
abbrev rest : ℕ → ℕ → ℕ → Option InitialiserTree → State → NamingTrees → Outcome DeclaresTrees
rest line own place i t n = then_do (maybe_initialised t (initialised t (with_type_here t n)) i) (λ u f. at_whole u line own place n.of (with_type n (type_filled (with_type_here t n).of f)) i f)

module _ (s : Scoping) (a : Table) (line : ℕ) (b : Specified) (i : InitDeclarator) where
  abbrev start : Option InitialiserTree
  start = option_of boxed_initialiser_seen i.initialiser

  abbrev behind : State → NamingTrees → Outcome DeclaresTrees
  behind = rest line i.line (local_count (state_of s a)) start

  init_is : init_in s a line b (init_seen i) ≡ then_do (name_in s a line b (declarator_seen i.declarator)) behind
  unfolding init_in name_in named_at
  init_is = ap (typed_init (state_of s a) line b) (init_parts i)

  pub init_stops : (u : Scoping) (c : Table) (e : CheckFault) (r : Result Declares CheckFault) → IsErrAnd r (λ x. x ≡ e) → Walks naming_in IsNamingIn (name_in s a line b (declarator_seen i.declarator)) s a u c (Err e) → Walks declares_in AreDeclaredIn (init_in s a line b (init_seen i)) s a u c r
  init_stops u c e r h w = walk_as _ _ init_is (first_stops declares_in AreDeclaredIn (name_in s a line b (declarator_seen i.declarator)) behind r h w)

  module _ (m : Scoping) (t : Table) (n : Naming) (of : ℕ) (o : Initialised) (named : Walks naming_in IsNamingIn (name_in s a line b (declarator_seen i.declarator)) s a m t (Ok n))
      (here : type_at t of ≡ type_here (state_of m t) (place_here (state_of m t) n.name) (type_at t n.of)) (object : object_in t o ≡ initialised (state_of m t) (naming_in t (of_type n of))) where
    abbrev starts : Outcome (Option FilledTrees)
    starts = maybe_initialised (state_of m t) (initialised (state_of m t) (with_type_here (state_of m t) (naming_in t n))) start

    abbrev ends : State → Option FilledTrees → Outcome DeclaresTrees
    ends u f = at_whole u line i.line (local_count (state_of s a)) (type_at t n.of) (with_type (naming_in t n) (type_filled (with_type_here (state_of m t) (naming_in t n)).of f)) start f

    started : maybe_in m t (object_in t o) start ≡ starts
    unfolding maybe_in
    started = ap (λ x. maybe_initialised (state_of m t) x start) (object_is m t n of o here object)

    pub init_stops_second : (u : Scoping) (c : Table) (e : CheckFault) (r : Result Declares CheckFault) → IsErrAnd r (λ x. x ≡ e) → Walks maybe_filled_in IsMaybeFilledIn (maybe_in m t (object_in t o) start) m t u c (Err e) → Walks declares_in AreDeclaredIn (init_in s a line b (init_seen i)) s a u c r
    init_stops_second u c e r h w =
        walk_as _ _ init_is (walk_then declares_in AreDeclaredIn (name_in s a line b (declarator_seen i.declarator)) behind s m u a t c n r named
        (first_stops declares_in AreDeclaredIn starts ends r h (walk_as _ _ (sym started) w)))

    pub init_goes : (u z : Scoping) (c d : Table) (f : Option Filled) (whole place : ℕ) (r : Result Declares CheckFault) → Walks maybe_filled_in IsMaybeFilledIn (maybe_in m t (object_in t o) start) m t u c (Ok f) → of < length t.forms
        → type_at c whole ≡ type_filled (type_at c of) (maybe_filled_in c f) → place ≡ local_count (state_of s a) → Walks declares_in AreDeclaredIn (at_whole (state_of u c) line i.line place (type_at c n.of) (naming_in c (of_type n whole)) start (maybe_filled_in c f)) u c z d r
        → Walks declares_in AreDeclaredIn (init_in s a line b (init_seen i)) s a z d r
    init_goes u z c d f whole place r w l e p x =
        walk_as _ _ init_is (walk_then declares_in AreDeclaredIn (name_in s a line b (declarator_seen i.declarator)) behind s m z a t d n r named
        (walk_then declares_in AreDeclaredIn starts ends m u z t c d f r (walk_as _ _ (sym started) w)
        (walk_as _ _ (ap (λ (y : NamingTrees). at_whole (state_of u c) line i.line (local_count (state_of s a)) (type_at t n.of) y start (maybe_filled_in c f)) (sym (filled_is m t c n of whole (maybe_filled_in c f) here (w.keeps.extends.types_stay of l) e))
        ∙ ap (λ y. at_whole (state_of u c) line i.line y (type_at t n.of) (naming_in c (of_type n whole)) start (maybe_filled_in c f)) (sym p)
        ∙ ap (λ y. at_whole (state_of u c) line i.line place y (naming_in c (of_type n whole)) start (maybe_filled_in c f)) (sym (w.keeps.extends.types_stay n.of named.within))) x)))
