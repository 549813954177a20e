-- The labels at the front of a line's tokens, added to what the lines before make.
use Rattle.std.specs.Prelude.{◌≡◌, ℕ, List}
use Rattle.asm_lines.specs.Tokens.{Spaced}
use Rattle.asm_text.specs.Lines.{AreLabels, NoLabel}
use Rattle.asm_text.specs.Made.{Made, with_labels}
use Rattle.asm_text.specs.Makes.{AreNew, label_names}

pub record TakesLabels (m : Made) (ts rest : List Spaced) (now : Made) : Type 0 where
  pub names : List (List ℕ)
  pub labels : AreLabels ts names rest
  pub last : NoLabel rest
  pub new : AreNew (label_names m.labels) names
  pub made : now ≡ with_labels m names
