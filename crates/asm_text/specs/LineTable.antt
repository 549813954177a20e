-- Lines whose names are numbers, places in a table of names; each line has so many of the labels.
use Rattle.std.specs.Prelude.{◌≡◌, ◌≤◌, ◌<◌, ℕ, ◌+◌, Option, List, [], ◌∷◌, ◌++◌, length, map, take, drop, All}
use Rattle.asm_lines.specs.declared.statement.Item.{Item}
use Rattle.asm_lines.specs.declared.statement.Statement.{Statement}
use Rattle.asm_lines.specs.declared.statement.Statement.TheVariants as statement
use Rattle.asm_lines.specs.Statements.{told_by}
use Rattle.asm_text.specs.declared.lines.Line.{Line}
use Rattle.asm_text.specs.Lines.{MLine}
use Rattle.asm_text.specs.Names.{name_at, name_in, names_of_instruction}
use Rattle.asm_text.specs.ProgramTable.{AreBelow}

-- the lines, of which the first has this number and the first of these labels
abbrev pub lines_behind : List (List ℕ) → ℕ → List ℕ → List Line → List MLine
lines_behind names number labels [] = []
lines_behind names number labels (line ∷ lines) =
    record { labels = map (name_at names) (take line.labels labels); statement = told_by (name_at names) line.statement; number = number }
    ∷ lines_behind names (number + 1) (drop line.labels labels) lines

abbrev pub numbers_of_items : List (Item ℕ) → List ℕ
numbers_of_items [] = []
numbers_of_items (i ∷ is) = name_in i.name ++ numbers_of_items is

-- the numbers of the names that a statement uses
abbrev pub numbers_in : Statement ℕ → List ℕ
numbers_in (statement.Global n) = n ∷ []
numbers_in (statement.Words items) = numbers_of_items items
numbers_in (statement.Instruction i) = names_of_instruction i
numbers_in s = []

abbrev pub AreLabelCounts : List ℕ → List Line → Type 0
AreLabelCounts labels [] = labels ≡ []
AreLabelCounts labels (line ∷ lines) = (line.labels ≤ length labels) × AreLabelCounts (drop line.labels labels) lines

-- each number is that of a name, and each label stands on a line
pub record AreLineTable (names : List (List ℕ)) (labels : List ℕ) (lines : List Line) : Type 0 where
  pub named : AreBelow (length names) labels
  pub statements : All (λ (l : Line). AreBelow (length names) (numbers_in l.statement)) lines
  pub counts : AreLabelCounts labels lines
