-- What falls while statements are lowered: the depth of the statement that is left, and with the same depth the rank of the function; and what
-- is kept while statements are lowered in order.
use Rattle.std.proofs.Common.{◌+◌, ◌*◌, max, drop}
use Rattle.c_meaning.specs.declared.core_stmt.CoreStmt.{size-CoreStmt}
use Rattle.statement_steps.specs.Functions.{function_of}
use Rattle.statement_steps.specs.Progresses.{exits_of}
use Rattle.c_lower_stmt.specs.Trees.{stmts_in}
use Rattle.c_lower_stmt.proofs.lemmas.Listing.{DoesLeft}
use Rattle.c_lower_stmt.proofs.+statements.Given as goal

abbrev pub decreases-statements::statement : goal.decreases-statements::statement
decreases-statements::statement l = 4 * (size-CoreStmt l.s.now)

abbrev pub decreases-statements::all : goal.decreases-statements::all
decreases-statements::all l = 4 * (goal.size-statements::all l) + 1

abbrev pub decreases-statements::labelled : goal.decreases-statements::labelled
decreases-statements::labelled l = 4 * (size-CoreStmt l.s.now) + 1

abbrev pub decreases-choices::choice : goal.decreases-choices::choice
decreases-choices::choice l = 4 * (max (size-CoreStmt l.ways.0.now) (size-CoreStmt l.ways.1.now)) + 2

abbrev pub decreases-choices::one_way : goal.decreases-choices::one_way
decreases-choices::one_way l = 4 * (size-CoreStmt l.then.now) + 1

abbrev pub decreases-choices::two_ways : goal.decreases-choices::two_ways
decreases-choices::two_ways l = 4 * (max (size-CoreStmt l.ways.0.now) (size-CoreStmt l.ways.1.now)) + 1

abbrev pub decreases-choices::switch : goal.decreases-choices::switch
decreases-choices::switch l = 4 * (size-CoreStmt l.body.now) + 1

abbrev pub decreases-loops::while_loop : goal.decreases-loops::while_loop
decreases-loops::while_loop l = 4 * (size-CoreStmt l.body.now) + 2

abbrev pub decreases-loops::do_loop : goal.decreases-loops::do_loop
decreases-loops::do_loop l = 4 * (size-CoreStmt l.body.now) + 2

abbrev pub decreases-loops::for_loop : goal.decreases-loops::for_loop
decreases-loops::for_loop l = 4 * (size-CoreStmt l.body.now) + 2

abbrev pub decreases-loops::turn : goal.decreases-loops::turn
decreases-loops::turn l = 4 * (size-CoreStmt l.body.now) + 1

abbrev pub invariant-statements::all-loop-s : goal.invariant-statements::all-loop-s
invariant-statements::all-loop-s l = DoesLeft (function_of l.f) (exits_of l.exits) (stmts_in l.f.site l.list) l.fn.into (stmts_in l.f.site (drop l.s-index l.list)) l.into
