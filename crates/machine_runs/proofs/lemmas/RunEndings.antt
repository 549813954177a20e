-- After any number of steps a run has an end: it was going all the time, or it stopped in some step.
use Rattle.std.proofs.Common.{◌≡◌, ℕ, zero, suc, ◌-◌, List, refl, sym, ap, subst, ◌∙◌, arith}
use Rattle.asm_text.specs.Runs.{MStep, Run, Place, Going, Ended, Stuck, StackOut, IsGoing, onward, run_from}
use Rattle.outcomes.specs.declared.outcome.End.{End}
use Rattle.outcomes.specs.declared.outcome.End.TheVariants as ends
use Rattle.machine_runs.specs.Endings.{StopsIn, RunEnds}

module _ {S : Type 0} (step : S → List ℕ → MStep S) (start : Run S) where
  abbrev run : ℕ → Run S
  run n = run_from step start n

  -- what was going and isn't any more has stopped in this step
  stopped : (n : ℕ) (place : Place S) → IsGoing (run n).place → (run (suc n)).place ≡ place → StopsIn (λ k. run_from step start k) (suc n) place
  stopped n place going at =
      let before : n ≡ suc n - 1 = omega arith in
      record { some = omega arith; before = subst (λ k. IsGoing (run k).place) before going; after = at }

  -- a step more: it stopped in this step, or before
  stops_next : (n : ℕ) (place before : Place S) → ((other : Place S) → (IsGoing other → ⊥) → (run n).place ≡ other → (k : ℕ) × StopsIn (λ j. run_from step start j) k other) → (run n).place ≡ before → (run (suc n)).place ≡ place → (k : ℕ) × StopsIn (λ j. run_from step start j) k place
  stops_next n place (Going s left) earlier is at = (suc n, stopped n place (subst IsGoing (sym is) tt) at)
  stops_next n place (Ended status) earlier is at =
      let (k, stops) = earlier (Ended status) (λ x. x) is in
      (k, subst (λ q. StopsIn (λ j. run_from step start j) k q) (sym (ap (λ (q : Place S). (onward step (run n).printed q).place) is) ∙ at) stops)
  stops_next n place (Stuck cause pc) earlier is at =
      let (k, stops) = earlier (Stuck cause pc) (λ x. x) is in
      (k, subst (λ q. StopsIn (λ j. run_from step start j) k q) (sym (ap (λ (q : Place S). (onward step (run n).printed q).place) is) ∙ at) stops)
  stops_next n place (StackOut pc) earlier is at =
      let (k, stops) = earlier (StackOut pc) (λ x. x) is in
      (k, subst (λ q. StopsIn (λ j. run_from step start j) k q) (sym (ap (λ (q : Place S). (onward step (run n).printed q).place) is) ∙ at) stops)

  stops : IsGoing start.place → (n : ℕ) (place : Place S) → (IsGoing place → ⊥) → (run n).place ≡ place → (k : ℕ) × StopsIn (λ j. run_from step start j) k place
  stops going zero place over at = absurd (over (subst IsGoing at going))
  stops going (suc n) place over at = stops_next n place (run n).place (stops going n) refl at

  ending : IsGoing start.place → (n : ℕ) (place : Place S) → (run n).place ≡ place → (end : End) × RunEnds (λ k. run_from step start k) n (run n).printed end
  ending going n (Going s left) is = (ends.OutOfSteps n, (refl, (Going s left, tt, ap (λ (q : Place S). record { printed = (run n).printed; place = q }) is)))
  ending going n (Ended status) is = (ends.Exited status, ap (λ (q : Place S). record { printed = (run n).printed; place = q }) is)
  ending going n (Stuck cause pc) is =
      let (k, stop) = stops going n (Stuck cause pc) (λ x. x) is in
      (ends.Stuck cause pc k, (ap (λ (q : Place S). record { printed = (run n).printed; place = q }) is, stop))
  ending going n (StackOut pc) is =
      let (k, stop) = stops going n (StackOut pc) (λ x. x) is in
      (ends.StackOut pc k, (ap (λ (q : Place S). record { printed = (run n).printed; place = q }) is, stop))

  -- what the run printed in so many steps, it prints to some end
  pub ends_somehow : IsGoing start.place → (n : ℕ) → (end : End) × RunEnds (λ k. run_from step start k) n (run_from step start n).printed end
  ends_somehow going n = ending going n (run n).place refl
