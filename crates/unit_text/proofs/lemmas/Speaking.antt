-- The names that lines of a unit speak of.
use Rattle.std.proofs.Common.{ℕ, List, [], ◌∷◌, ◌++◌}
use Rattle.std.specs.Prelude.{All}
use Rattle.std.specs.List.{AllZip}
use Rattle.std.proofs.lemmas.List.Elements.{All-head, All-tail}
use Rattle.asm_text.specs.Names.{names_of, names_of_instruction}
use Rattle.asm_text.specs.Program.{MInstruction}
use Rattle.op_forest.specs.declared.lowered.LoweredFunction.{LoweredFunction}
use Rattle.unit_text.specs.Items.{CodeItem, Line, Mark}
use Rattle.unit_text.specs.UnitLines.{Item, Coded, code_lines, items_of}

-- P holds of each of these names
abbrev pub EachName : (List ℕ → Type 0) → List (List ℕ) → Type 0
EachName P [] = Unit {0}
EachName P (n ∷ ns) = P n × EachName P ns

-- L holds of each label of the items, and P of each name that they speak of
abbrev pub ItemsSpeak : (L P : List ℕ → Type 0) → List Item → Type 0
ItemsSpeak L P [] = Unit {0}
ItemsSpeak L P (x ∷ xs) = EachName L x.labels × EachName P (names_of x.statement) × ItemsSpeak L P xs

-- P holds of each name that the instructions of the items speak of, and L of the text of each label
abbrev pub CodeItemsSpeak : (L P : List ℕ → Type 0) → (ℕ → List ℕ) → List (CodeItem MInstruction) → Type 0
CodeItemsSpeak L P labels [] = Unit {0}
CodeItemsSpeak L P labels (Line i ∷ xs) = EachName P (names_of_instruction i) × CodeItemsSpeak L P labels xs
CodeItemsSpeak L P labels (Mark l ∷ xs) = L (labels l) × CodeItemsSpeak L P labels xs

-- ---- the items of functions

-- L and P hold of a function's name, L of its labels, and P of each name that its instructions speak of
abbrev pub FunctionSpeaks : (L P : List ℕ → Type 0) → Coded → Type 0
FunctionSpeaks L P f = L f.name × P f.name × CodeItemsSpeak L P f.labels f.items

abbrev pub FunctionsSpeak : (L P : List ℕ → Type 0) → List Coded → Type 0
FunctionsSpeak L P [] = Unit {0}
FunctionsSpeak L P (f ∷ fs) = FunctionSpeaks L P f × FunctionsSpeak L P fs

code_lines_speak : (L P : List ℕ → Type 0) (labels : ℕ → List ℕ) (code : List (CodeItem MInstruction)) (more : List Item) → CodeItemsSpeak L P labels code → ItemsSpeak L P more → ItemsSpeak L P (code_lines labels code ++ more)
code_lines_speak L P labels [] more h k = k
code_lines_speak L P labels (Line i ∷ xs) more h k = (tt, h.0, code_lines_speak L P labels xs more h.1 k)
code_lines_speak L P labels (Mark l ∷ xs) more h k = ((h.0, tt), tt, code_lines_speak L P labels xs more h.1 k)

pub items_speak : (L P : List ℕ → Type 0) (fs : List Coded) → FunctionsSpeak L P fs → ItemsSpeak L P (items_of fs)
items_speak L P [] h = tt
items_speak L P (f ∷ fs) h = (tt, (h.0.1, tt), ((h.0.0, tt), tt, code_lines_speak L P f.labels f.items (items_of fs) h.0.2 (items_speak L P fs h.1)))

-- what is so of each function of a unit is so of those that are made of them
pub functions_speak : (IsMade : LoweredFunction → Coded → Type 0) (L P : List ℕ → Type 0) (R : LoweredFunction → Type 0) (fs : List LoweredFunction) (cs : List Coded) → AllZip IsMade fs cs → All R fs → ((f : LoweredFunction) (c : Coded) → IsMade f c → R f → FunctionSpeaks L P c) → FunctionsSpeak L P cs
functions_speak IsMade L P R [] [] z all go = tt
functions_speak IsMade L P R [] (c ∷ cs) z all go = absurd z
functions_speak IsMade L P R (f ∷ fs) [] z all go = absurd z
functions_speak IsMade L P R (f ∷ fs) (c ∷ cs) z all go = (go f c z.0 (All-head R f fs all), functions_speak IsMade L P R fs cs z.1 (All-tail R f fs all) go)
