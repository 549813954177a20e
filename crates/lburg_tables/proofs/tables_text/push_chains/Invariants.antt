use Rattle.std.proofs.Common.{◌≡◌, ◌++◌, take}
use Rattle.lburg_tables.specs.TablesText.{chain_lines}
use Rattle.lburg_tables.proofs.tables_text.push_chains.Given as goal

abbrev pub invariant-loop-place : goal.invariant-loop-place
invariant-loop-place l = l.out ≡ l.initial.out ++ chain_lines l.tables.rules 0 (take l.place l.names)
