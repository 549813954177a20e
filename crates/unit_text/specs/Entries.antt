-- Where the functions of a unit stand in the program that its lines make: one behind the other, each with its name as a
-- label at its first instruction, and with its own labels.
use Rattle.std.specs.Prelude.{◌≡◌, ℕ, zero, suc, ◌+◌, List, [], ◌∷◌, ◌++◌, length, Option, Some}
use Rattle.asm_text.specs.declared.place.Place.TheVariants.{Code}
use Rattle.asm_text.specs.Linked.{code_place}
use Rattle.asm_text.specs.Made.{label_at}
use Rattle.asm_text.specs.Program.{MInstruction, MLabel, MProgram, place_of}
use Rattle.unit_text.specs.Items.{CodeItem, Line, Mark, lines_in, StandsIn}
use Rattle.unit_text.specs.UnitLines.{Coded}

-- the instructions of all functions
abbrev pub codes_of : List Coded → List MInstruction
codes_of [] = []
codes_of (f ∷ fs) = lines_in f.items ++ codes_of fs

-- how many instructions stand before function k
abbrev pub entry_of : List Coded → ℕ → ℕ
entry_of [] k = 0
entry_of (f ∷ fs) zero = 0
entry_of (f ∷ fs) (suc k) = length (lines_in f.items) + entry_of fs k

-- the labels among items before which so many instructions stand
abbrev pub marks_from : (ℕ → List ℕ) → ℕ → List (CodeItem MInstruction) → List MLabel
marks_from labels place [] = []
marks_from labels place (Line i ∷ xs) = marks_from labels (suc place) xs
marks_from labels place (Mark l ∷ xs) = label_at (Code place) (labels l) ∷ marks_from labels place xs

-- the labels of functions before which so many instructions stand
abbrev pub labels_of : ℕ → List Coded → List MLabel
labels_of place [] = []
labels_of place (f ∷ fs) = label_at (Code place) f.name ∷ (marks_from f.labels place f.items ++ labels_of (place + length (lines_in f.items)) fs)

-- the instruction at which a function's label stands in a program
abbrev pub label_in : MProgram → Coded → ℕ → Option ℕ
label_in p c l = code_place (place_of p.labels (c.labels l))

-- a function in a program: its name is a label at its first instruction, and its items stand there
pub record HasEntry (p : MProgram) (c : Coded) : Type 0 where
  pub entry : ℕ
  pub named : place_of p.labels c.name ≡ Some (Code entry)
  pub stands : StandsIn p.code (label_in p c) entry c.items
