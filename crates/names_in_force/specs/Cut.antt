-- The bindings in force by scopes: one list, cut where each scope starts.
use Rattle.std.specs.Prelude.{ℕ, ◌≡◌, ◌≤◌, List, [], ◌∷◌, take, drop, reverse}
use Rattle.c_ast.specs.InForce.{Binding, InForce}
use Rattle.names_in_force.specs.Stacked.{Stacked}

-- the scopes, the innermost first, and in each the newest first: of the bindings, the oldest first, and the starts, the
-- innermost first
abbrev pub cut : List ℕ → List Binding → List (List Binding)
cut [] bs = []
cut (s ∷ ss) bs = reverse (drop s bs) ∷ cut ss (take s bs)

-- no scope starts behind the one in it, and the outermost at the first of so many bindings
abbrev pub AreStarts : List ℕ → ℕ → Type 0
AreStarts [] n = n ≡ 0
AreStarts (s ∷ ss) n = (s ≤ n) × AreStarts ss s

abbrev pub names_of : Stacked → List ℕ → InForce
names_of b starts = record { scopes = cut (reverse starts) b.bound; kept = reverse b.kept }
