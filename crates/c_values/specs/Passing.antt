-- Parameters, one behind another.
use Rattle.std.specs.Prelude.{ℕ, List, [], ◌∷◌}

-- the parameters behind the first
abbrev pub behind : List ℕ → List ℕ
behind [] = []
behind (p ∷ ps) = ps
