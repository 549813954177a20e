-- Steps, each from where the last one led.
use Rattle.std.specs.Prelude.{◌≡◌, ℕ, zero, suc, Option, Some}

-- n steps lead from s to t
abbrev pub Chain : {S : Type 0} → (S → Option S) → ℕ → S → S → Type 0
Chain step zero s t = s ≡ t
Chain {S} step (suc n) s t = (mid : S) × (step s ≡ Some mid) × Chain step n mid t
