-- Texts as a set holds them.
use Rattle.std.specs.Prelude.{ℕ, List, [], ◌∷◌, Vec}
use Rattle.std.specs.declared.alloc.Global.{Global}

-- the bytes of each
abbrev pub texts_in : List (Vec ℕ Global) → List (List ℕ)
texts_in [] = []
texts_in (v ∷ vs) = v.items ∷ texts_in vs
