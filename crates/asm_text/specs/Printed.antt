-- How lines are printed: the labels of a line without blanks, and then its statement.
use Rattle.std.specs.Prelude.{ℕ, List, [], ◌∷◌, ◌++◌}
use Rattle.asm_lines.specs.Printed.{printed_label, printed_statement}
use Rattle.asm_text.specs.Lines.{MLine}

abbrev pub labels_text : List (List ℕ) → List ℕ
labels_text [] = []
labels_text (name ∷ names) = printed_label name ++ labels_text names

abbrev pub line_text : MLine → List ℕ
line_text line = labels_text line.labels ++ printed_statement line.statement

abbrev pub lines_text : List MLine → List ℕ
lines_text [] = []
lines_text (line ∷ lines) = line_text line ++ lines_text lines
