-- Numbers that rise: each is above those before it.
use Rattle.std.specs.Prelude.{◌≡◌, ℕ, suc, ◌≤◌, List, [], ◌∷◌}

-- from a number on, up to the one below another
abbrev pub Rises : ℕ → List ℕ → ℕ → Type 0
Rises from [] to = to ≡ from
Rises from (n ∷ ns) to = (from ≤ n) × Rises (suc n) ns to
