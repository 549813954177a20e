-- Runs of a machine: a step more, what stays once a run is over, and that what was printed is a first part of what is
-- printed in the end.
use Rattle.std.proofs.Common.{◌≡◌, ℕ, zero, suc, ◌+◌, ◌-◌, ◌≤◌, ◌<◌, List, [], ◌++◌, refl, sym, ap, subst, ◌∙◌, append_assoc, append-nil, add-one, arith}
use Rattle.asm_text.specs.Runs.{MStep, Goes, Ends, IsStuck, IsOut, Run, Place, Going, Ended, Stuck, StackOut, IsGoing, after, onward, run_from}
use Rattle.outcomes.specs.declared.outcome.End.{End}
use Rattle.outcomes.specs.declared.outcome.End.TheVariants as ends
use Rattle.machine_runs.specs.Endings.{IsAt, StopsIn, RunEnds}

abbrev pub run_at : {S : Type 0} → List ℕ → Place S → Run S
run_at printed place = record { printed = printed; place = place }

-- the text of a run to its end is what it printed
pub ends_printed : {S : Type 0} (run : ℕ → Run S) (steps : ℕ) (text : List ℕ) (end : End) → RunEnds run steps text end → (run steps).printed ≡ text
ends_printed run steps text (ends.Exited status) at = ap (λ r. r.printed) at
ends_printed run steps text (ends.Stuck cause pc step) (at, stop) = ap (λ r. r.printed) at
ends_printed run steps text (ends.StackOut pc step) (at, stop) = ap (λ r. r.printed) at
ends_printed run steps text (ends.OutOfSteps n) (same, (place, going, at)) = ap (λ r. r.printed) at
ends_printed run steps text end none = absurd none

module _ {S : Type 0} (step : S → List ℕ → MStep S) (start : Run S) where
  abbrev run : ℕ → Run S
  run n = run_from step start n

  -- ---- a step more

  pub behind : (n : ℕ) (printed left : List ℕ) (state : S) (does : MStep S) → run_from step start n ≡ run_at printed (Going state left) → step state left ≡ does → run_from step start (n + 1) ≡ after printed left does
  behind n printed left state does at is = rw (add-one, at, is) refl

  -- ---- what is printed only grows

  after_grows : (printed left : List ℕ) (does : MStep S) → (rest : List ℕ) × ((after printed left does).printed ≡ printed ++ rest)
  after_grows printed left (Goes state more taken) = (more, refl)
  after_grows printed left (Ends status) = ([], sym (append-nil printed))
  after_grows printed left (IsStuck cause pc) = ([], sym (append-nil printed))
  after_grows printed left (IsOut pc) = ([], sym (append-nil printed))

  onward_grows : (printed : List ℕ) (place : Place S) → (rest : List ℕ) × ((onward step printed place).printed ≡ printed ++ rest)
  onward_grows printed (Going state left) = after_grows printed left (step state left)
  onward_grows printed (Ended status) = ([], sym (append-nil printed))
  onward_grows printed (Stuck cause pc) = ([], sym (append-nil printed))
  onward_grows printed (StackOut pc) = ([], sym (append-nil printed))

  grows : (n more : ℕ) → (rest : List ℕ) × ((run (more + n)).printed ≡ (run n).printed ++ rest)
  grows n zero =
      let none : 0 + n ≡ n = omega arith in
      ([], ap (λ (k : ℕ). (run k).printed) none ∙ sym (append-nil (run n).printed))
  grows n (suc more) =
      let one : suc more + n ≡ suc (more + n) = omega arith in
      let (rest, is) = grows n more in
      let (last, e) = onward_grows (run (more + n)).printed (run (more + n)).place in
      (rest ++ last, ap (λ (k : ℕ). (run k).printed) one ∙ e ∙ ap (λ (l : List ℕ). l ++ last) is ∙ append_assoc (run n).printed rest last)

  pub printed_before : (n steps : ℕ) → n ≤ steps → (rest : List ℕ) × ((run_from step start steps).printed ≡ (run_from step start n).printed ++ rest)
  printed_before n steps within =
      let (rest, is) = grows n (steps - n) in
      let all : (steps - n) + n ≡ steps = omega (arith, within) in
      (rest, ap (λ (k : ℕ). (run k).printed) (sym all) ∙ is)

  -- ---- what is over stays

  onward_over : (printed : List ℕ) (place : Place S) → (IsGoing place → ⊥) → onward step printed place ≡ run_at printed place
  onward_over printed (Going state left) over = absurd (over tt)
  onward_over printed (Ended status) over = refl
  onward_over printed (Stuck cause pc) over = refl
  onward_over printed (StackOut pc) over = refl

  stays : (n more : ℕ) (printed : List ℕ) (place : Place S) → (IsGoing place → ⊥) → run n ≡ run_at printed place → run (more + n) ≡ run_at printed place
  stays n zero printed place over at =
      let none : 0 + n ≡ n = omega arith in
      ap (λ (k : ℕ). run k) none ∙ at
  stays n (suc more) printed place over at =
      let one : suc more + n ≡ suc (more + n) = omega arith in
      let before = stays n more printed place over at in
      ap (λ (k : ℕ). run k) one ∙ ap (λ (r : Run S). onward step r.printed r.place) before ∙ onward_over printed place over

  -- the run was going, and stops in the next step at a place that is over
  pub stops : (n steps : ℕ) (printed left : List ℕ) (state : S) (place : Place S) → (IsGoing place → ⊥) → n < steps → run_from step start n ≡ run_at printed (Going state left) → run_from step start (n + 1) ≡ run_at printed place → IsAt (λ k. run_from step start k) steps printed place × StopsIn (λ k. run_from step start k) (n + 1) place
  stops n steps printed left state place over within at next =
      let all : (steps - (n + 1)) + (n + 1) ≡ steps = omega (arith, within) in
      let same : n ≡ (n + 1) - 1 = omega arith in
      let before : IsGoing (run n).place = subst (λ (r : Run S). IsGoing r.place) (sym at) tt in (
        ap (λ (k : ℕ). run k) (sym all) ∙ stays (n + 1) (steps - (n + 1)) printed place over next,
        record { some = omega arith; before = subst (λ (k : ℕ). IsGoing (run k).place) same before; after = ap (λ (r : Run S). r.place) next },
      )
