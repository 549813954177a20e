-- A text that is one line, as which it stands before any other text, and spells tokens of this kind.
use Rattle.std.specs.Prelude.{◌≡◌, ℕ, not, ◌==◌, List, [], ◌∷◌, ◌++◌}
use Rattle.lcc_text.specs.Classes.{AllIn}
use Rattle.lcc_text.specs.Lines.{lines_of}
use Rattle.asm_lines.specs.Tokens.{Spaced}
use Rattle.asm_lines.specs.Spelling.{Spells}

-- no line feed is among the bytes
abbrev pub NoFeed : List ℕ → Type 0
NoFeed line = AllIn (λ b. not (b == 10)) line

pub record ReadsBack (text : List ℕ) (Is : List Spaced → Type 0) : Type 0 where
  pub line : List ℕ
  pub ends : text ≡ line ++ 10 ∷ []
  pub no_feed : NoFeed line
  pub first : (behind : List ℕ) → lines_of (text ++ behind) ≡ line ∷ lines_of behind
  pub tokens : List Spaced
  pub spelled : Spells tokens line
  pub is : Is tokens
