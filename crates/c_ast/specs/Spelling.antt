-- Texts with numbers beside them.
use Rattle.std.specs.Prelude.{ℕ, List, [], ◌∷◌, Option, Some, None, if◌then◌else◌}
use Rattle.std.specs.Str.{bytes_eq}
use Rattle.std.specs.Borrow.{Bor}

-- the number beside the text, at its first place
abbrev pub number_among : List ℕ → List (Bor (List ℕ) × ℕ) → Option ℕ
number_among text [] = None
number_among text (c ∷ cs) = if bytes_eq text c.0.now then Some c.1 else number_among text cs
