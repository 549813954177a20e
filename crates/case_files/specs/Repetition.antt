-- Pieces that are written several times.
use Rattle.std.specs.Prelude.{◌==◌, ◌++◌, ℕ, zero, suc, List, [], ◌∷◌, cond, flat_map}

-- the piece so often, one behind another
abbrev pub repeated : ℕ → List ℕ → List ℕ
repeated zero piece = []
repeated (suc n) piece = repeated n piece ++ piece

-- the piece with these digits in place of each `#`
abbrev pub numbered : List ℕ → List ℕ → List ℕ
numbered digits piece = flat_map (λ byte. cond (byte == 35) digits (byte ∷ [])) piece
