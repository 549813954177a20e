use Rattle.std.proofs.Common.{◌≡◌, ◌++◌}
use Rattle.c_stmt_parts.specs.CaseLists.{cases_in}
use Rattle.c_stmt_parts.proofs.cases.listed.Given as goal

abbrev pub invariant-loop-number : goal.invariant-loop-number
invariant-loop-number l = l.list ++ cases_in l.number-iterator ≡ cases_in l.labels.entries
