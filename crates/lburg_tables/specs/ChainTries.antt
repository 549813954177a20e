-- How many chain rules the closing of a row tries.
use Rattle.std.specs.Prelude.{ℕ, ◌+◌, Option, None, Some, List, [], ◌∷◌, slice_index_or}
use Rattle.lburg_model.specs.declared.rule.Rule.{Rule}
use Rattle.lburg_model.specs.Pattern.{MPattern, PHole, PLeaf, POne, PTwo, pattern_of}
use Rattle.lburg_tables.specs.declared.cell.Cell.{Cell}

-- 1 for a cell, 0 for none
abbrev pub cell_weight : Option Cell → ℕ
cell_weight None = 0
cell_weight (Some c) = 1

-- 1 for the pattern of a chain rule from a nonterminal with a cell in the row, else 0
abbrev pub chain_tries_of : List (Option Cell) → MPattern → ℕ
chain_tries_of row (PHole n) = cell_weight (slice_index_or row n None)
chain_tries_of row (PLeaf op) = 0
chain_tries_of row (POne op p) = 0
chain_tries_of row (PTwo op p q) = 0

-- how many are chain rules from nonterminals with a cell in the row
abbrev pub chain_tries : List (Option Cell) → List Rule → ℕ
chain_tries row [] = 0
chain_tries row (r ∷ rs) = chain_tries_of row (pattern_of r.pattern) + chain_tries row rs
