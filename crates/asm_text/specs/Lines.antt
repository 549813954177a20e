-- The lines of a text: each has any number of labels and then a statement or nothing, and its number, from 1.
use Rattle.std.specs.Prelude.{◌≡◌, ℕ, ◌+◌, List, [], ◌∷◌}
use Rattle.asm_lines.specs.Tokens.{Spaced}
use Rattle.asm_lines.specs.Spelling.{Spells}
use Rattle.asm_lines.specs.Statements.{MStatement, IsStatement, IsLabelled}

pub record MLine : Type 0 where
  pub labels : List (List ℕ)
  pub statement : MStatement
  pub number : ℕ

-- labels of these names stand first, and rest behind them
abbrev pub AreLabels : List Spaced → List (List ℕ) → List Spaced → Type 0
AreLabels ts [] rest = ts ≡ rest
AreLabels ts (name ∷ names) rest = (behind : List Spaced) × IsLabelled ts name behind × AreLabels behind names rest

-- no label stands first
abbrev pub NoLabel : List Spaced → Type 0
NoLabel ts = (name : List ℕ) (rest : List Spaced) → IsLabelled ts name rest → ⊥

-- the tokens are those of the line
pub record AreTokens (ts : List Spaced) (line : MLine) : Type 0 where
  pub rest : List Spaced
  pub labels : AreLabels ts line.labels rest
  pub statement : IsStatement rest line.statement

-- the bytes of a line of this number
pub record IsLine (bytes : List ℕ) (number : ℕ) (line : MLine) : Type 0 where
  pub tokens : List Spaced
  pub spelled : Spells tokens bytes
  pub are : AreTokens tokens line
  pub number_is : line.number ≡ number

-- the lines of a text, of which the first has this number
abbrev pub AreLines : List (List ℕ) → ℕ → List MLine → Type 0
AreLines [] number [] = Unit {0}
AreLines (bytes ∷ all) number (line ∷ lines) = IsLine bytes number line × AreLines all (number + 1) lines
AreLines all number lines = ⊥
