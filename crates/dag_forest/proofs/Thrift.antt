-- A node that has no temporary is used once, or is an address or a constant.
use Rattle.std.proofs.Common.{◌≡◌, ℕ, zero, suc, ◌<◌, ◌≤◌, Bool, true, false, true≢false, Option, List, [], ◌∷◌, inl, inr, refl, sym, ap, ◌∙◌, arith, subst}
use Rattle.std.specs.Prelude.{◌⊎◌, ◌&&◌, not, if◌then◌else◌}
use Rattle.dag_forest.specs.declared.parts.Parts.{Parts}
use Rattle.dag_forest.specs.Entries.{is_call}
use Rattle.dag_forest.specs.Schedules.{Act, Made, Acts, at}
use Rattle.dag_forest.specs.Meaning.{Temporary}
use Rattle.dag_forest.specs.Emission.{AreOnce}
use Rattle.dag_forest.specs.Choice.{Room, counts, times_of, late, is_handed, is_computed, is_needed, wants, reads_by, room_by, next_by, is_wanted, chosen, IfRoom, AreSparing}
use Rattle.dag_forest.specs.Split.{kept_by}
use Rattle.dag_forest.proofs.lemmas.Maps.{at_new, at_old}
use Rattle.dag_forest.proofs.Fits.{AreUsed, handed_once}
use Rattle.dag_forest.proofs.Weights.{IsThrift, AreThrifty}

and_true : (a b : Bool) → (a && b) ≡ true → a ≡ true
and_true true b h = refl
and_true false b h = h

-- not kept, though computed and used
once_used : (comp call handed : Bool) (c : ℕ) (stale : Bool) → 0 < c → (handed ≡ true → c ≡ 1) → (comp && (if call then not handed else is_needed (times_of c) stale)) ≡ false → comp ≡ true → c ≡ 1
once_used false call handed c stale l one e is = absurd (true≢false (sym is))
once_used true true true c stale l one e is = one refl
once_used true true false c stale l one e is = absurd (true≢false e)
once_used true false handed zero stale l one e is = absurd (omega (arith, l))
once_used true false handed (suc zero) stale l one e is = refl
once_used true false handed (suc (suc c)) stale l one e is = absurd (true≢false e)

thrift_by : (f : Room → Temporary) (w : Bool) (x : Parts) (t c : ℕ) (l handed r : Bool) → 0 < c → (handed ≡ true → c ≡ 1) → wants x (times_of c) l handed r ≡ w → IsThrift x (kept_by f (room_by w x t)) c
thrift_by f true x t c l handed r above one e = and_true (is_computed x) (if is_call x.operator.op then not handed else is_needed (times_of c) (l && r)) e
thrift_by f false x t c l handed r above one e = once_used (is_computed x) (is_call x.operator.op) handed c (l && r) above one e

pub thrifty : (f : Room → Temporary) (xs : List Act) (made : ℕ → Bool) (reads : ℕ → Bool) (t : ℕ) (kept : ℕ → Option Room) → ((m : ℕ) → made m ≡ false → kept m ≡ chosen xs reads t m) → AreOnce xs made → AreUsed xs → AreThrifty (λ m. kept_by f (kept m)) xs
thrifty f [] made reads t kept same once used_ = tt
thrifty f (Made n x ∷ as') made reads t kept same once used_ =
    let w = is_wanted as' reads n x in
    let reads' = at reads n (not w && reads_by reads x) in (
      subst (λ k. IsThrift x (kept_by f k) (counts as' n)) (sym (same n once.0 ∙ at_new (chosen as' reads' (next_by w t)) n (room_by w x t))) (thrift_by f w x t (counts as' n) (late as' n) (is_handed as' n) (reads_by reads x) used_.0 (handed_once as' n) refl),
      thrifty f as' (at made n true) reads' (next_by w t) kept
          (λ m is.
          let ne : m ≡ n → ⊥ = λ e. true≢false (sym (ap (at made n true) e ∙ at_new made n true) ∙ is) in
          same m (sym (at_old made n true m ne) ∙ is) ∙ at_old (chosen as' reads' (next_by w t)) n (room_by w x t) m ne)
          once.1 used_.1,
    )
thrifty f (Acts x ∷ as') made reads t kept same once used_ = thrifty f as' made reads t kept same once used_

-- ---- none without need

needed_so : (comp call handed : Bool) (c : ℕ) (l r : Bool) → (comp && (if call then not handed else is_needed (times_of c) (l && r))) ≡ true → (comp ≡ true) × (((call ≡ true) × (handed ≡ false)) ⊎ (2 ≤ c) ⊎ (l ≡ true))
needed_so false call handed c l r e = absurd (true≢false (sym e))
needed_so true true true c l r e = absurd (true≢false (sym e))
needed_so true true false c l r e = (refl, inl (refl, refl))
needed_so true false handed zero l r e = absurd (true≢false (sym e))
needed_so true false handed (suc zero) l r e = (refl, inr (inr (and_true l r e)))
needed_so true false handed (suc (suc c)) l r e = (refl, inr (inl (omega arith)))

spared : (w : Bool) (x : Parts) (t c : ℕ) (l handed r : Bool) → wants x (times_of c) l handed r ≡ w → IfRoom (room_by w x t) ((is_computed x ≡ true) × (((is_call x.operator.op ≡ true) × (handed ≡ false)) ⊎ (2 ≤ c) ⊎ (l ≡ true)))
spared false x t c l handed r e = tt
spared true x t c l handed r e = needed_so (is_computed x) (is_call x.operator.op) handed c l r e

pub sparing : (xs : List Act) (made : ℕ → Bool) (reads : ℕ → Bool) (t : ℕ) (kept : ℕ → Option Room) → ((m : ℕ) → made m ≡ false → kept m ≡ chosen xs reads t m) → AreOnce xs made → AreSparing kept xs
sparing [] made reads t kept same once = tt
sparing (Made n x ∷ as') made reads t kept same once =
    let w = is_wanted as' reads n x in
    let reads' = at reads n (not w && reads_by reads x) in (
      subst (λ k. IfRoom k ((is_computed x ≡ true) × (((is_call x.operator.op ≡ true) × (is_handed as' n ≡ false)) ⊎ (2 ≤ counts as' n) ⊎ (late as' n ≡ true)))) (sym (same n once.0 ∙ at_new (chosen as' reads' (next_by w t)) n (room_by w x t))) (spared w x t (counts as' n) (late as' n) (is_handed as' n) (reads_by reads x) refl),
      sparing as' (at made n true) reads' (next_by w t) kept
          (λ m is.
          let ne : m ≡ n → ⊥ = λ e. true≢false (sym (ap (at made n true) e ∙ at_new made n true) ∙ is) in
          same m (sym (at_old made n true m ne) ∙ is) ∙ at_old (chosen as' reads' (next_by w t)) n (room_by w x t) m ne)
          once.1,
    )
sparing (Acts x ∷ as') made reads t kept same once = sparing as' made reads t kept same once
