-- The names of a description's operators and nonterminals.
use Rattle.std.specs.Prelude.{ℕ, Option, Some, None, List, [], slice_index_or}
use Rattle.lburg_model.specs.declared.terminal.Terminal.{Terminal}
use Rattle.lburg_model.specs.Description.{MDescription, terminal_at}

abbrev name_in : Option Terminal → List ℕ
name_in None = []
name_in (Some t) = t.name

-- the name of an operator's terminal, empty where there is none
abbrev pub operator_name : MDescription → ℕ → List ℕ
operator_name d op = name_in (terminal_at d op)

-- the name of the nonterminal at a place, empty where there is none
abbrev pub nonterminal_name : MDescription → ℕ → List ℕ
nonterminal_name d n = slice_index_or d.nonterminals n []
