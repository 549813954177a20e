-- Names that are used, and their lines.
use Rattle.std.specs.Prelude.{ℕ, List, map}
use Rattle.asm_text.specs.Made.{Use}

abbrev pub use_of : List ℕ → ℕ → Use
use_of name line = record { name = name; line = line }

abbrev pub used_names : List Use → List (List ℕ)
used_names uses = map (λ (u : Use). u.name) uses
