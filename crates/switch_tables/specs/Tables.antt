-- The tables of a switch: for each number from a first one on, the label to which it leads.
-- Source: Fraser and Hanson, A Retargetable C Compiler, chapter 10.
use Rattle.std.specs.Prelude.{ℕ, zero, suc, ◌+◌, ◌%◌, ◌^◌, Bool, List, [], ◌∷◌, length, map, sum_by}
use Rattle.c_meaning.specs.declared.core_stmt.CoreCase.{CoreCase}
use Rattle.switch_tables.specs.declared.table.Table.{Table}
use Rattle.switch_tables.specs.Cases.{label_of}
use Rattle.switch_tables.specs.Order.{rising}
use Rattle.switch_tables.specs.Cuts.{range_to, cut}

-- the labels to which so many numbers lead, from n on
abbrev pub labels_from : List CoreCase → ℕ → ℕ → ℕ → List ℕ
labels_from cases default n zero = []
labels_from cases default n (suc count) = label_of cases default n ∷ labels_from cases default ((n + 1) % 2 ^ 32) count

abbrev pub first_number : List CoreCase → ℕ
first_number [] = 0
first_number (c ∷ cs) = c.number

abbrev pub last_number : List CoreCase → ℕ
last_number [] = 0
last_number (c ∷ []) = c.number
last_number (c ∷ d ∷ ds) = last_number (d ∷ ds)

-- a table of cases in rising order: the numbers from the first case's on up to the last one's
abbrev pub table_of : ℕ → List CoreCase → Table
table_of default cases =
    record { low = first_number cases; labels = labels_from cases default (first_number cases) (range_to cases (last_number cases)) }

abbrev pub tables_of : Bool → ℕ → List CoreCase → List Table
tables_of signed default cases = map (table_of default) (cut (rising signed cases))

abbrev pub label_count : List Table → ℕ
label_count tables = sum_by (λ t. length t.labels) tables
