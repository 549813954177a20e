use Rattle.std.proofs.Common.{◌≡◌, drop, map}
use Rattle.c_meaning.specs.StmtTrees.{stmt_of, stmts_of}
use Rattle.c_unit_ends.specs.NameFaults.{missing_in}
use Rattle.c_unit_ends.specs.Uses.{stmts_uses}
use Rattle.c_unit_ends.proofs.uses.+statement.Given as goal

abbrev pub invariant-in_stmts-loop-s : goal.invariant-in_stmts-loop-s
invariant-in_stmts-loop-s l = missing_in l.standings l.least (stmts_uses (stmts_of (map stmt_of (drop l.s-index l.list)))) ≡ missing_in l.standings l.fn.found (stmts_uses (stmts_of (map stmt_of l.list)))
