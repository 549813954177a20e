use Rattle.std.proofs.Common.{◌≡◌, ◌<◌, ◌≤◌, true, false, List, ◌++◌, refl, sym, ap, ◌∙◌, subst, arith}
use Rattle.std.specs.Prelude.{Option, Some, None, IfOk, option_to_list}
use Rattle.c_types.specs.Layout.{extent}
use Rattle.c_types.specs.Table.{Table, tags, type_at}
use Rattle.c_meaning.specs.CoreTrees.{seen}
use Rattle.c_meaning.specs.Filling.{Found, enter, fills, found, next, parts, taken}
use Rattle.c_values.specs.Valued.{qualified_in}
use Rattle.c_initialisers.specs.declared.place.Place.{Place}
use Rattle.c_initialisers.specs.declared.waits.Waits.{Waits}
use Rattle.c_initialisers.specs.Entering.{IsEntered, IsFrontIn, are_whole, entered_front, front_in}
use Rattle.c_initialisers.specs.Waiting.{entries_in, place_in, waiting_in}
use Rattle.c_initialisers.proofs.MemberLists.{parts_nested}
use Rattle.c_initialisers.proofs.Searches.{entered_parts, entry_whole, found_first, greatest, missing_first, next_nested, rest_nested, rest_shorter, rest_whole, taken_first, whole_none}
use Rattle.c_initialisers.proofs.entering.+entering.Goals as goal

no_place : (t : Table) (old new : List Waits) (f : Option Found) (r : Option Place) → IsEntered t old new f r → ((p : Place) → r ≡ Some p → ⊥) → IsEntered t old new f None
no_place t old new f None h never = h
no_place t old new f (Some p) h never = absurd (never p refl)

nothing : (r : Option Waits) → ((w : Waits) → r ≡ Some w → ⊥) → r ≡ None
nothing None never = refl
nothing (Some w) never = absurd (never w refl)

pub enter-enter_entry-requires : goal.enter-enter_entry-requires
enter-enter_entry-requires n c =
    let t = c.args.types.now in
    let at = c.args.at in
    let are : entries_in t c.in-Some.entry ≡ parts (tags t) (qualified_in t at.of) at.offset = rw c.in-Some.is at c.parts.ensures.are in
    let less : greatest (tags t) (entries_in t c.in-Some.entry) < (extent (tags t) (qualified_in t at.of)).nesting = subst (λ ws. greatest (tags t) ws < (extent (tags t) (qualified_in t at.of)).nesting) (sym are) (parts_nested (tags t) c.members_are_complete.ensures (qualified_in t at.of) at.offset) in
    let d = c.decreases in
    ((omega (arith, less, d)), (rw c.in-Some.is at c.parts.ensures.within, c.requires.within))

pub enter-returns-in-Some : goal.enter-returns-in-Some
enter-returns-in-Some n c =
    let t = c.args.types.now in
    let at = c.args.at in
    let x = seen (type_at t) c.args.c.now in
    let are : entries_in t c.in-Some.entry ≡ parts (tags t) (qualified_in t at.of) at.offset = rw c.in-Some.is at c.parts.ensures.are in
    let unfilled : fills (qualified_in t at.of) x ≡ false = sym c.does_fill.ensures ∙ c.if-does_fill.false in
    let same : enter (tags t) x (place_in t at) ≡ taken (tags t) x (entries_in t c.in-Some.entry) = entered_parts (tags t) c.members_are_complete.ensures x (qualified_in t at.of) (place_in t at) unfilled ∙ ap (taken (tags t) x) (sym are) in
    subst (λ f. IfOk c.enter_entry.result (IsEntered t c.args.waits.now.items c.enter_entry.new.waits.items f)) (sym same) c.enter_entry.ensures

pub enter-returns-in-None : goal.enter-returns-in-None
enter-returns-in-None n c =
    let t = c.args.types.now in
    let at = c.args.at in
    let x = seen (type_at t) c.args.c.now in
    let are : waiting_in t (option_to_list None) ≡ parts (tags t) (qualified_in t at.of) at.offset = rw c.in-None.is at c.parts.ensures.are in
    let unfilled : fills (qualified_in t at.of) x ≡ false = sym c.does_fill.ensures ∙ c.if-does_fill.false in
    (entered_parts (tags t) c.members_are_complete.ensures x (qualified_in t at.of) (place_in t at) unfilled ∙ ap (taken (tags t) x) (sym are), refl)

pub enter_entry-enter_members-requires : goal.enter_entry-enter_members-requires
enter_entry-enter_members-requires n c =
    let t = c.args.types.now in
    let d = c.decreases in
    ((omega (arith, d)), (c.requires.entry, (c.requires.within, entry_whole t c.args.entry c.in-Members.of c.in-Members.begin c.in-Members.index c.in-Members.is)))

pub enter_entry-enter_front-requires : goal.enter_entry-enter_front-requires
enter_entry-enter_front-requires n c =
    let t = c.args.types.now in
    let f = c.in-Some.front in
    let first : front_in t (Some f) ≡ next (tags t) (entries_in t c.args.entry) = ap (front_in t) (sym c.in-Some.is) ∙ c.in_ok-front.ensures.is in
    let deep = next_nested (tags t) (entries_in t c.args.entry) (found (place_in t f.place) (waiting_in t (option_to_list f.behind))) (sym first) in
    let d = c.decreases in
    ((omega (arith, deep, d)), (rw c.in-Some.is at c.in_ok-front.ensures.within, c.requires.within))

pub enter_entry-returns-in-Some : goal.enter_entry-returns-in-Some
enter_entry-returns-in-Some n c =
    let t = c.args.types.now in
    let x = seen (type_at t) c.args.c.now in
    let f = c.in-Some.front in
    let first : front_in t (Some f) ≡ next (tags t) (entries_in t c.args.entry) = ap (front_in t) (sym c.in-Some.is) ∙ c.in_ok-front.ensures.is in
    let same : entered_front (tags t) x (front_in t (Some f)) ≡ taken (tags t) x (entries_in t c.args.entry) = ap (entered_front (tags t) x) first ∙ sym (taken_first t x c.args.entry c.in_default.not-Members) in
    subst (λ g. IfOk c.enter_front.result (IsEntered t c.args.waits.now.items c.enter_front.new.waits.items g)) same c.enter_front.ensures

pub enter_front-enter-requires : goal.enter_front-enter-requires
enter_front-enter-requires n c = let d = c.decreases in ((omega (arith, d)), (c.requires.front.0, c.requires.within))

pub enter_members-loop-rest-init : goal.enter_members-loop-rest-init
enter_members-loop-rest-init n c = record { waits = refl; entry = c.requires.entry; whole = c.requires.whole; nested = omega arith; taken = refl }

pub enter_members-front-requires : goal.enter_members-front-requires
enter_members-front-requires n c = rw c.in-Some.is at c.loop-rest.invariant.entry

pub enter_members-enter_front-requires : goal.enter_members-enter_front-requires
enter_members-enter_front-requires n c =
    let t = c.args.types.now in
    let f = c.in-Some-2.front in
    let ws = entries_in t c.in-Some.entry in
    let first : front_in t (Some f) ≡ next (tags t) ws = ap (front_in t) (sym c.in-Some-2.is) ∙ c.in_ok-front.ensures.is in
    let deep = next_nested (tags t) ws (found (place_in t f.place) (waiting_in t (option_to_list f.behind))) (sym first) in
    let nested : greatest (tags t) ws ≤ greatest (tags t) (entries_in t c.args.entry) = rw c.in-Some.is at c.loop-rest.invariant.nested in
    let d = c.decreases in
    ((omega (arith, deep, nested, d)), (rw c.in-Some-2.is at c.in_ok-front.ensures.within, c.requires.within))

pub enter_members-returns-in-Some-3 : goal.enter_members-returns-in-Some-3
enter_members-returns-in-Some-3 n c =
    let t = c.args.types.now in
    let x = seen (type_at t) c.args.c.now in
    let f = c.in-Some-2.front in
    let ws = entries_in t c.in-Some.entry in
    let first : front_in t (Some f) ≡ next (tags t) ws = ap (front_in t) (sym c.in-Some-2.is) ∙ c.in_ok-front.ensures.is in
    let whole : are_whole ws ≡ true = rw c.in-Some.is at c.loop-rest.invariant.whole in
    let same : taken (tags t) x ws ≡ taken (tags t) x (entries_in t c.args.entry) = rw c.in-Some.is at c.loop-rest.invariant.taken in
    let g = entered_front (tags t) x (front_in t (Some f)) in
    let h : IsEntered t c.loop-rest.waits.items c.enter_front.new.waits.items g (Some c.in-Some-3.found) = rw c.in-Some-3.is at c.in_ok-found-in-Some-2.ensures in
    (h.0, h.1 ∙ ap (λ l. l ++ h.0) c.loop-rest.invariant.waits, found_first (tags t) x ws (found (place_in t f.place) (waiting_in t (option_to_list f.behind))) whole (sym first) (taken (tags t) x (entries_in t c.args.entry)) g (found (place_in t c.in-Some-3.found) (waiting_in t h.0)) same refl h.2, h.3, h.4)

pub enter_members-loop-rest-smaller : goal.enter_members-loop-rest-smaller
enter_members-loop-rest-smaller n c =
    let t = c.args.types.now in
    let x = seen (type_at t) c.args.c.now in
    let f = c.in-Some-2.front in
    let ws = entries_in t c.in-Some.entry in
    let first : front_in t (Some f) ≡ next (tags t) ws = ap (front_in t) (sym c.in-Some-2.is) ∙ c.in_ok-front.ensures.is in
    let whole : are_whole ws ≡ true = rw c.in-Some.is at c.loop-rest.invariant.whole in
    rw c.in-Some.is (rest_shorter (tags t) x ws (found (place_in t f.place) (waiting_in t (option_to_list f.behind))) whole (sym first))

pub enter_members-loop-rest-preserved : goal.enter_members-loop-rest-preserved
enter_members-loop-rest-preserved n c =
    let t = c.args.types.now in
    let x = seen (type_at t) c.args.c.now in
    let f = c.in-Some-2.front in
    let ws = entries_in t c.in-Some.entry in
    let first : front_in t (Some f) ≡ next (tags t) ws = ap (front_in t) (sym c.in-Some-2.is) ∙ c.in_ok-front.ensures.is in
    let whole : are_whole ws ≡ true = rw c.in-Some.is at c.loop-rest.invariant.whole in
    let same : taken (tags t) x ws ≡ taken (tags t) x (entries_in t c.args.entry) = rw c.in-Some.is at c.loop-rest.invariant.taken in
    let nested : greatest (tags t) ws ≤ greatest (tags t) (entries_in t c.args.entry) = rw c.in-Some.is at c.loop-rest.invariant.nested in
    let g = entered_front (tags t) x (front_in t (Some f)) in
    let missing = no_place t c.loop-rest.waits.items c.enter_front.new.waits.items g _ c.in_ok-found-in-Some-2.ensures c.in_default-2.not-Some in
    let behind : IsFrontIn t f = rw c.in-Some-2.is at c.in_ok-front.ensures.within in
    let found_at = found (place_in t f.place) (waiting_in t (option_to_list f.behind)) in
    let less = rest_nested (tags t) ws found_at whole (sym first) in
    record {
      waits = missing.1 ∙ c.loop-rest.invariant.waits;
      entry = behind.1;
      whole = rest_whole (tags t) x ws found_at whole (sym first);
      nested = omega (arith, less, nested);
      taken = missing_first (tags t) x ws found_at whole (sym first) g refl missing.0 ∙ same;
    }

pub enter_members-returns-in-None : goal.enter_members-returns-in-None
enter_members-returns-in-None n c =
    let t = c.args.types.now in
    let x = seen (type_at t) c.args.c.now in
    let ws = entries_in t c.in-Some.entry in
    let first : front_in t None ≡ next (tags t) ws = ap (front_in t) (sym c.in-None.is) ∙ c.in_ok-front.ensures.is in
    let whole : are_whole ws ≡ true = rw c.in-Some.is at c.loop-rest.invariant.whole in
    let same : taken (tags t) x ws ≡ taken (tags t) x (entries_in t c.args.entry) = rw c.in-Some.is at c.loop-rest.invariant.taken in
    (sym same ∙ whole_none (tags t) x ws whole (sym first), c.loop-rest.invariant.waits)

pub enter_members-returns : goal.enter_members-returns
enter_members-returns n c =
    let t = c.args.types.now in
    let x = seen (type_at t) c.args.c.now in
    (sym (rw (nothing c.loop-rest.rest c.in_default.not-Some) at c.loop-rest.invariant.taken), c.loop-rest.invariant.waits)
