use Rattle.std.proofs.Common.{◌≡◌, ◌++◌, take}
use Rattle.lburg_tables.specs.TablesText.{rule_lines}
use Rattle.lburg_tables.proofs.tables_text.push_rules.Given as goal

abbrev pub invariant-loop-place : goal.invariant-loop-place
invariant-loop-place l = l.out ≡ l.initial.out ++ rule_lines l.d 1 (take l.place l.rules)
