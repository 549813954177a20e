use Rattle.std.proofs.Common.{◌≡◌, ◌++◌, take}
use Rattle.lburg_tables.specs.TablesText.{operator_lines}
use Rattle.lburg_tables.proofs.tables_text.push_operators.Given as goal

abbrev pub invariant-loop-place : goal.invariant-loop-place
invariant-loop-place l = l.out ≡ l.initial.out ++ operator_lines l.tables.rules 1 (take l.place l.terminals)
