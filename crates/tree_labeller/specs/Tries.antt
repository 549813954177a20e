-- How many rules and chains the filling of a row tries.
use Rattle.std.specs.Prelude.{ℕ, ◌+◌, Option, List, length}
use Rattle.lburg_model.specs.Description.{MDescription}
use Rattle.lburg_model.specs.declared.rule.Rule.{Rule}
use Rattle.lburg_tables.specs.Root.{Operator}
use Rattle.lburg_tables.specs.Places.{with_root}
use Rattle.lburg_tables.specs.Leads.{HasRanged}
use Rattle.lburg_tables.specs.Row.{CellAt}
use Rattle.lburg_tables.specs.declared.cell.Cell.{Cell}
use Rattle.lburg_tables.specs.ChainTries.{chain_tries}
use Rattle.tree_labeller.specs.Trials.{ChainTrials}

-- how many have the operator at their root, and how many are chain rules from a cell of the row
abbrev pub row_tries : ℕ → List (Option Cell) → List Rule → ℕ
row_tries op row rules = with_root (Operator op) rules + chain_tries row rules

-- the nonterminal has a cell in the row
abbrev pub HasCell : List (Option Cell) → ℕ → Type 0
HasCell row n = (c : Cell) × CellAt row n c

-- so many chain rules or chains are tried to fill a row from its base row
pub data ClosingTries (d : MDescription) (base row : List (Option Cell)) : ℕ → Type 0 where
  TriedRules : HasRanged d.rules → ClosingTries d base row (chain_tries row d.rules)
  TriedChains : {many : ℕ} → (HasRanged d.rules → ⊥) → ChainTrials d (HasCell base) (length d.nonterminals) many → ClosingTries d base row many
