-- The names of a map, with their symbols.
use Rattle.std.specs.Prelude.{ℕ, List, [], ◌∷◌, Vec}
use Rattle.std.specs.declared.alloc.Global.{Global}

abbrev pub names_in : List (Vec ℕ Global × ℕ) → List (List ℕ × ℕ)
names_in [] = []
names_in (e ∷ es) = (e.0.items, e.1) ∷ names_in es
