-- Tables of names that have grown, and labels whose numbers are added to others.
use Rattle.std.specs.Prelude.{◌≡◌, ℕ, List, ◌++◌, length, map}
use Rattle.asm_text.specs.Names.{name_at}
use Rattle.asm_text.specs.ProgramTable.{AreBelow}

-- the names are those that there were, with their numbers, and perhaps more behind them
abbrev pub HasGrown : List (List ℕ) → List (List ℕ) → Type 0
HasGrown old new = (more : List (List ℕ)) × (new ≡ old ++ more)

-- the numbers of these labels stand behind the old numbers
pub record AddsLabels (names : List (List ℕ)) (old new : List ℕ) (labels : List (List ℕ)) : Type 0 where
  pub more : List ℕ
  pub adds : new ≡ old ++ more
  pub below : AreBelow (length names) more
  pub same : map (name_at names) more ≡ labels
