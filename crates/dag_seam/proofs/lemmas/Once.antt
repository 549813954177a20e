-- What is made once: later and with the unused ones.
use Rattle.std.proofs.Common.{◌≡◌, ⊎_elim, ℕ, suc, ◌+◌, ◌≤◌, ◌==◌, Bool, true, false, List, [], ◌∷◌, ◌++◌, inl, inr, refl, ap, ◌∙◌, arith}
use Rattle.std.specs.Prelude.{cond, nat_le, if◌then◌else◌, ◌⊎◌}
use Rattle.std.proofs.lemmas.Bool.{cases_eq, eq-eqb}
use Rattle.std.proofs.lemmas.Bool.Decides.{nat_tests}
use Rattle.dag_forest.specs.declared.act.Act.{Act}
use Rattle.dag_forest.specs.declared.act.Act.TheVariants.{Made, Acts}
use Rattle.dag_forest.specs.declared.entry.Entry.{Entry}
use Rattle.dag_forest.specs.declared.entry.Entry.TheVariants.{Value, Root}
use Rattle.dag_forest.specs.declared.parts.Parts.{Parts}
use Rattle.dag_forest.specs.Emission.{AreOnce}
use Rattle.dag_forest.specs.Schedules.{Parted, at, with_below, with_other, is_in, waits, number_of, kids_of, kids_list, parted, reversed, in_turn, all_uses, used, acts_of}
use Rattle.dag_seam.specs.Turns.{Makes}
use Rattle.dag_forest.proofs.lemmas.Maps.{at_old, unmade, unmade_other}

-- a node that is made later isn't made yet
pub later_made : (xs : List Act) (made : ℕ → Bool) (m : ℕ) → AreOnce xs made → Makes m xs → made m ≡ false
later_made [] made m once h = absurd h
later_made (Made n x ∷ xs) made m once h = ⊎_elim (λ e. ap made e ∙ once.0) (λ e. unmade made n m (later_made xs (at made n true) m once.1 e)) h
later_made (Acts x ∷ xs) made m once h = later_made xs made m once h

pub not_again : (xs : List Act) (made : ℕ → Bool) (n : ℕ) → AreOnce xs (at made n true) → Makes n xs → ⊥
not_again xs made n once h = unmade_other made n n (later_made xs (at made n true) n once h) refl

-- what is made without the unused nodes is made with them
pub makes_used : (xs : List Act) (m : ℕ) → Makes m (used xs) → Makes m xs
makes_used [] m h = h
makes_used (Made n x ∷ xs) m h = by (is_in n (all_uses (used xs))) (makes_used xs m) h
  where
    by : (b : Bool) → (Makes m (used xs) → Makes m xs) → Makes m (if b then Made n x ∷ used xs else used xs) → (m ≡ n) ⊎ Makes m xs
    by true f g = ⊎_elim (λ e. inl e) (λ e. inr (f e)) g
    by false f g = inr (f g)
makes_used (Acts x ∷ xs) m h = makes_used xs m h
