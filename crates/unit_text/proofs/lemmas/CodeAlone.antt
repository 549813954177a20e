-- Generated lines are lines of code alone.
use Rattle.std.proofs.Common.{ℕ, ◌+◌, List, [], ◌∷◌, ◌++◌}
use Rattle.asm_lines.specs.Statements.{Text}
use Rattle.asm_text.proofs.lemmas.CodeLines.{IsCode, AreCode}
use Rattle.asm_text.specs.Program.{MInstruction}
use Rattle.unit_text.specs.Items.{CodeItem, Line, Mark}
use Rattle.unit_text.specs.UnitLines.{Item, Coded, plain, numbered, code_lines, items_of, unit_lines}

abbrev pub AllCode : List Item → Type 0
AllCode [] = Unit {0}
AllCode (x ∷ xs) = IsCode x.statement × AllCode xs

numbered_code : (n : ℕ) (xs : List Item) → AllCode xs → AreCode (numbered n xs)
numbered_code n [] h = tt
numbered_code n (x ∷ xs) h = (h.0, numbered_code (n + 1) xs h.1)

lines_code : (labels : ℕ → List ℕ) (code : List (CodeItem MInstruction)) (more : List Item) → AllCode more → AllCode (code_lines labels code ++ more)
lines_code labels [] more h = h
lines_code labels (Line i ∷ xs) more h = (tt, lines_code labels xs more h)
lines_code labels (Mark l ∷ xs) more h = (tt, lines_code labels xs more h)

pub items_code : (fs : List Coded) → AllCode (items_of fs)
items_code [] = tt
items_code (f ∷ fs) = (tt, (tt, lines_code f.labels f.items (items_of fs) (items_code fs)))

pub unit_code : (fs : List Coded) → AreCode (unit_lines fs)
unit_code fs = numbered_code 1 (plain Text ∷ items_of fs) (tt, items_code fs)
