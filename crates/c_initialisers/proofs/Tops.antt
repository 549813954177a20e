-- The walk down a stack: from what waits next to what waits behind it.
use Rattle.std.proofs.Common.{◌≡◌, ◌≢◌, ℕ, zero, suc, ◌+◌, ◌-◌, ◌<◌, ◌≤◌, List, [], ◌∷◌, ◌++◌, length, take, get_or, sym, ap, ◌∙◌, subst, arith}
use Rattle.std.specs.Prelude.{Option, Some, None, option_to_list}
use Rattle.std.proofs.lemmas.List.{take_more}
use Rattle.c_types.specs.Table.{Table, tags}
use Rattle.c_meaning.specs.Filling.{Found, Waiting, Nowhere, found, next, or_else, taken, with_left}
use Rattle.c_meaning.specs.Values.{CoreTree}
use Rattle.c_initialisers.specs.declared.front.Front.{Front}
use Rattle.c_initialisers.specs.declared.place.Place.{Place}
use Rattle.c_initialisers.specs.declared.waits.Waits.{Waits}
use Rattle.c_initialisers.specs.declared.waits.Waits.TheVariants as waits
use Rattle.c_initialisers.specs.Entering.{IsBehindIn, IsEntered, front_in}
use Rattle.c_initialisers.specs.Waiting.{AreEntriesIn, IsEntryIn, entries_in, place_in, waiting_in}
use Rattle.c_initialisers.proofs.Searches.{entries_open, next_append, taken_append}
use Rattle.c_initialisers.proofs.Stacks.{entries_append, entries_take, waiting_append}

pub entry_at : (t : Table) (ws : List Waits) (i : ℕ) (d : Waits) → AreEntriesIn t ws → i < length ws → IsEntryIn t (get_or ws i d)
entry_at t [] i d h l = absurd (omega arith)
entry_at t (w ∷ ws) zero d h l = h.0
entry_at t (w ∷ ws) (suc i) d h l = entry_at t ws i d h.1 (omega arith)

pub behind_entries : (t : Table) (b : Option Waits) → IsBehindIn t b → AreEntriesIn t (option_to_list b)
behind_entries t None h = tt
behind_entries t (Some w) h = (h, tt)

-- ---- one entry of the stack, and those below it

-- what was read of the stack at a place
pub record IsTop (ws : List Waits) (u : ℕ) (w : Waits) : Type 0 where
  pub there : 0 < u
  pub within : u ≤ length ws
  pub default : Waits
  pub is : w ≡ get_or ws (u - 1) default

module _ (t : Table) (ws : List Waits) (u : ℕ) (w : Waits) (h : IsTop ws u w) where
  abbrev below : List Waiting
  below = waiting_in t (take (u - 1) ws)

  -- what the entry stands for comes first
  top_first : waiting_in t (take u ws) ≡ entries_in t w ++ below
  top_first =
      let i : (u - 1) + 1 ≡ u = omega (arith, h.there) in
      let k : u - 1 < length ws = omega (arith, h.there, h.within) in
      ap (λ n. waiting_in t (take n ws)) (sym i) ∙ ap (waiting_in t) (take_more ws (u - 1) h.default k) ∙ ap (λ x. waiting_in t (take (u - 1) ws ++ x ∷ [])) (sym h.is) ∙ waiting_append t (take (u - 1) ws) (w ∷ [])

  pub top_nowhere : w ≡ waits.Nowhere → waiting_in t (take u ws) ≡ Nowhere ∷ below
  top_nowhere e = top_first ∙ ap (λ x. entries_in t x ++ below) e

  module _ (some : w ≢ waits.Nowhere) where
    next_top : next (tags t) (waiting_in t (take u ws)) ≡ or_else (with_left below (next (tags t) (entries_in t w))) (next (tags t) below)
    next_top = ap (next (tags t)) top_first ∙ next_append (tags t) (entries_in t w) below (entries_open t w some)

    taken_top : (c : CoreTree) → taken (tags t) c (waiting_in t (take u ws)) ≡ or_else (with_left below (taken (tags t) c (entries_in t w))) (taken (tags t) c below)
    taken_top c = ap (taken (tags t) c) top_first ∙ taken_append (tags t) c (entries_in t w) below (entries_open t w some)

    on_top : (new left : List Waits) → new ≡ take (u - 1) ws ++ left → waiting_in t left ++ below ≡ waiting_in t new
    on_top new left e = sym (ap (waiting_in t) e ∙ waiting_append t (take (u - 1) ws) left)

    pub next_found : (f : Front) (new : List Waits) → front_in t (Some f) ≡ next (tags t) (entries_in t w) → new ≡ take (u - 1) ws ++ option_to_list f.behind → next (tags t) (waiting_in t (take u ws)) ≡ Some (found (place_in t f.place) (waiting_in t new))
    next_found f new e n = next_top ∙ ap (λ o. or_else (with_left below o) (next (tags t) below)) (sym e) ∙ ap (λ l. Some (found (place_in t f.place) l)) (on_top new (option_to_list f.behind) n)

    pub next_missing : front_in t None ≡ next (tags t) (entries_in t w) → next (tags t) below ≡ next (tags t) (waiting_in t (take u ws))
    next_missing e = sym (next_top ∙ ap (λ o. or_else (with_left below o) (next (tags t) below)) (sym e))

    pub taken_found : (c : CoreTree) (old left new : List Waits) (p : Place) → old ≡ [] → IsEntered t old left (taken (tags t) c (entries_in t w)) (Some p) → new ≡ take (u - 1) ws ++ left → taken (tags t) c (waiting_in t (take u ws)) ≡ Some (found (place_in t p) (waiting_in t new))
    taken_found c old left new p z k n =
        let same : left ≡ k.0 = k.1 ∙ ap (λ l. l ++ k.0) z in
        taken_top c ∙ ap (λ o. or_else (with_left below o) (taken (tags t) c below)) k.2
        ∙ ap (λ l. Some (found (place_in t p) l)) (ap (λ l. waiting_in t l ++ below) (sym same) ∙ on_top new left n)

    pub taken_missing : (c : CoreTree) → taken (tags t) c (entries_in t w) ≡ None → taken (tags t) c below ≡ taken (tags t) c (waiting_in t (take u ws))
    taken_missing c k = sym (taken_top c ∙ ap (λ o. or_else (with_left below o) (taken (tags t) c below)) k)

pub entries_left : (t : Table) (k : ℕ) (ws left new : List Waits) → AreEntriesIn t ws → AreEntriesIn t left → new ≡ take k ws ++ left → AreEntriesIn t new
entries_left t k ws left new h g e = subst (AreEntriesIn t) (sym e) (entries_append t (take k ws) left (entries_take t k ws h) g)

pub entered_entries : (t : Table) (old new : List Waits) (f : Option Found) (p : Place) → old ≡ [] → IsEntered t old new f (Some p) → AreEntriesIn t new
entered_entries t old new f p z h = subst (AreEntriesIn t) (sym (h.1 ∙ ap (λ l. l ++ h.0) z)) h.3
