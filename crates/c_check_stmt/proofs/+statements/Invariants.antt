-- What falls in the walk: the depth of the statement that is left, and with the same depth the rank of the function; and what
-- its loop keeps.
use Rattle.std.proofs.Common.{◌+◌, ◌*◌, max, drop}
use Rattle.c_ast.specs.declared.statement.Block.{size-Block}
use Rattle.c_ast.specs.declared.statement.Statement.{size-Statement}
use Rattle.c_check_expr.specs.Keeps.{Keeps}
use Rattle.c_stmt_parts.specs.BodiesSeen.{around_seen}
use Rattle.c_stmt_parts.proofs.lemmas.StatementLists.{StatementsGoing}
use Rattle.c_check_stmt.specs.Ready.{IsReady}
use Rattle.c_check_stmt.proofs.+statements.Given as goal

abbrev pub decreases-statements::statement : goal.decreases-statements::statement
decreases-statements::statement l = 4 * (size-Statement l.s.now)

abbrev pub decreases-statements::statements : goal.decreases-statements::statements
decreases-statements::statements l = 4 * (goal.size-statements::statements l) + 1

abbrev pub decreases-statements::block : goal.decreases-statements::block
decreases-statements::block l = 4 * (size-Block l.b.now) + 2

abbrev pub decreases-statements::compound : goal.decreases-statements::compound
decreases-statements::compound l = 4 * (size-Block l.b.now) + 3

abbrev pub decreases-labelled::labelled : goal.decreases-labelled::labelled
decreases-labelled::labelled l = 4 * (size-Statement l.s.now) + 1

abbrev pub decreases-labelled::case : goal.decreases-labelled::case
decreases-labelled::case l = 4 * (size-Statement l.s.now) + 1

abbrev pub decreases-labelled::default : goal.decreases-labelled::default
decreases-labelled::default l = 4 * (size-Statement l.s.now) + 1

abbrev pub decreases-branches::if_ : goal.decreases-branches::if_
decreases-branches::if_ l = 4 * (size-Statement l.s.now) + 1

abbrev pub decreases-branches::if_else : goal.decreases-branches::if_else
decreases-branches::if_else l = 4 * (max (size-Statement l.both.0.now) (size-Statement l.both.1.now)) + 1

abbrev pub decreases-branches::switch : goal.decreases-branches::switch
decreases-branches::switch l = 4 * (size-Statement l.s.now) + 1

abbrev pub decreases-loops::while_ : goal.decreases-loops::while_
decreases-loops::while_ l = 4 * (size-Statement l.s.now) + 1

abbrev pub decreases-loops::do_ : goal.decreases-loops::do_
decreases-loops::do_ l = 4 * (size-Statement l.s.now) + 1

abbrev pub decreases-loops::for_ : goal.decreases-loops::for_
decreases-loops::for_ l = 4 * (size-Statement l.s.now) + 1

abbrev pub invariant-statements::statements-loop-s : goal.invariant-statements::statements-loop-s
invariant-statements::statements-loop-s l =
    record {
      going : StatementsGoing l.fn.within (around_seen l.fn.around) l.fn.scopes l.fn.types l.fn.body l.list l.scopes l.types l.body l.codes (drop l.s-index l.list);
      kept : Keeps l.fn.scopes l.fn.types l.scopes l.types;
      ready : IsReady l.types l.fn.within l.body;
    }
