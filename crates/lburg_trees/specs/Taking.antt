-- A taker's run.
use Rattle.std.specs.Prelude.{◌≡◌, ℕ, ◌+◌, List, [], ◌∷◌}
use Rattle.lburg_model.specs.Tree.{MTree}

-- the taker goes from one state to another over these trees, of which the first has the number k
abbrev pub Takes : {T : Type 0} → (T → ℕ → MTree → T → Type 0) → ℕ → List MTree → T → T → Type 0
Takes step k [] s s' = s ≡ s'
Takes {T} step k (t ∷ ts) s s' = (m : T) × step s k t m × Takes step (k + 1) ts m s'
