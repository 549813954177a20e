-- The lines of a unit: its functions in order in the code section, each with its name, which is seen from outside.
use Rattle.std.specs.Prelude.{ℕ, ◌+◌, List, [], ◌∷◌, ◌++◌, map, codes, decimal}
use Rattle.asm_lines.specs.Statements.{MStatement, Nothing, Text, Global, Does}
use Rattle.asm_text.specs.Lines.{MLine}
use Rattle.asm_text.specs.Program.{MInstruction}
use Rattle.unit_text.specs.Items.{CodeItem, Line as AnInstruction, Mark}

-- a line without its number: its labels, and what stands behind them
pub record Item : Type 0 where
  pub labels : List (List ℕ)
  pub statement : MStatement

abbrev pub plain : MStatement → Item
plain s = record { labels = []; statement = s }

-- the lines that these are, numbered from this number on
abbrev pub numbered : ℕ → List Item → List MLine
numbered n [] = []
numbered n (x ∷ xs) = record { labels = x.labels; statement = x.statement; number = n } ∷ numbered (n + 1) xs

-- a line with this label alone
abbrev pub marked : List ℕ → Item
marked name = record { labels = name ∷ []; statement = Nothing }

-- the text of a label, which has a number of its own in the whole unit
abbrev pub label_text : ℕ → List ℕ
label_text l = codes "L." ++ decimal l

-- the line of an item, where labels have these texts
abbrev pub item_of : (ℕ → List ℕ) → CodeItem MInstruction → Item
item_of labels (AnInstruction i) = plain (Does i)
item_of labels (Mark l) = marked (labels l)

abbrev pub code_lines : (ℕ → List ℕ) → List (CodeItem MInstruction) → List Item
code_lines labels code = map (item_of labels) code

-- a function: its name, the texts of its labels, and its code
pub record Coded : Type 0 where
  pub name : List ℕ
  pub labels : ℕ → List ℕ
  pub items : List (CodeItem MInstruction)

-- a function's name is a label, seen from outside
abbrev pub named : List ℕ → List Item
named name = plain (Global name) ∷ marked name ∷ []

abbrev pub function_items : Coded → List Item
function_items f = named f.name ++ code_lines f.labels f.items

abbrev pub items_of : List Coded → List Item
items_of [] = []
items_of (f ∷ fs) = function_items f ++ items_of fs

abbrev pub unit_lines : List Coded → List MLine
unit_lines fs = numbered 1 (plain Text ∷ items_of fs)
