use Rattle.std.proofs.Common.{ℕ, drop, map}
use Rattle.c_meaning.specs.StmtTrees.{stmt_of, stmts_of}
use Rattle.c_wholes.specs.Numbering.{AreCounted}
use Rattle.c_wholes.proofs.numbers.+counting.Given as goal

abbrev pub invariant-count_statements-loop-s : goal.invariant-count_statements-loop-s
invariant-count_statements-loop-s l = (end' : ℕ) → AreCounted l.left end' (stmts_of (map stmt_of (drop l.s-index l.list))) → AreCounted l.fn.most end' (stmts_of (map stmt_of l.list))
