-- The labels and the uses that the entries of a map tell: the name is the key.
use Rattle.std.specs.Prelude.{ℕ, List, map}
use Rattle.std.specs.Borrow.{Bor}
use Rattle.asm_text.specs.declared.place.Place.{Place}
use Rattle.asm_text.specs.Made.{Use, label_at}
use Rattle.asm_text.specs.Program.{MLabel}
use Rattle.asm_text.specs.Uses.{use_of}

abbrev pub labels_in : List (Bor (List ℕ) × Place) → List MLabel
labels_in entries = map (λ e. label_at e.1 e.0.now) entries

abbrev pub uses_in : List (Bor (List ℕ) × ℕ) → List Use
uses_in entries = map (λ e. use_of e.0.now e.1) entries
