use Rattle.std.proofs.Common.{◌≡◌, ◌+◌, ◌*◌, drop, length, map, take}
use Rattle.c_types.specs.Table.{type_at}
use Rattle.c_meaning.specs.StmtTrees.{AreStmtsIn, stmt_of, stmts_of, stmts_seen}
use Rattle.c_units.specs.Wholes.{whole_stmts}
use Rattle.c_standings.specs.StandingLists.{meant}
use Rattle.c_wholes.specs.Placing.{AreStmtsPlaced}
use Rattle.c_wholes.proofs.statements.+statements.Given as goal

-- what falls: the depth of the statements that are left, and with the same depth the rank of the function
abbrev pub decreases-whole_statements : goal.decreases-whole_statements
decreases-whole_statements l = 4 * (goal.size-whole_statements l) + 3

abbrev pub decreases-each_statement : goal.decreases-each_statement
decreases-each_statement l = 4 * (goal.size-each_statement l) + 2

abbrev pub decreases-whole_statement : goal.decreases-whole_statement
decreases-whole_statement l = 4 * (goal.size-whole_statement l) + 1

abbrev pub decreases-made_whole : goal.decreases-made_whole
decreases-made_whole l = 4 * (goal.size-made_whole l) + 0

-- what is whole so far, and that the others are as before
abbrev pub invariant-each_statement-loop-i : goal.invariant-each_statement-loop-i
invariant-each_statement-loop-i l =
    record {
      placed : AreStmtsPlaced l.k.types.now l.fn.locals l.locals (whole_stmts (meant l.k.standings.now) l.k.texts.now (stmts_seen (type_at l.k.types.now) (stmts_of (map stmt_of (take l.i l.fn.list))))) (take l.i l.list);
      left : drop l.i l.list ≡ drop l.i l.fn.list;
      lengths : length l.list ≡ length l.fn.list;
      within : AreStmtsIn (length l.k.types.now.forms) (stmts_of (map stmt_of (drop l.i l.list)));
      unvisited : goal.unvisited-each_statement-loop-i l;
    }
