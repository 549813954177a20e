-- What falls in the walk: the size of the syntax that is left, and with the same size the rank of the function; and what
-- its loop keeps.
use Rattle.std.proofs.Common.{◌+◌, ◌*◌, length, drop}
use Rattle.c_check_expr.specs.Keeps.{Keeps}
use Rattle.c_initialisers.specs.Storing.{IsFillingIn}
use Rattle.c_initialisers.specs.Waiting.{AreEntriesIn}
use Rattle.c_initialisers.proofs.Walked.{ItemsGoing}
use Rattle.c_initialisers.proofs.walk.+walk.Given as goal

abbrev pub decreases-item : goal.decreases-item
decreases-item l = 4 * (goal.size-item l) + 0

abbrev pub decreases-items : goal.decreases-items
decreases-items l = 4 * (goal.size-items l) + 1

abbrev pub decreases-list : goal.decreases-list
decreases-list l = 4 * (goal.size-list l) + 2

abbrev pub invariant-items-loop-i : goal.invariant-items-loop-i
invariant-items-loop-i l = ItemsGoing l.listing l.fn.start l.fn.scopes l.fn.types l.list l.scopes l.types l.all (drop l.i-index l.list) × Keeps l.fn.scopes l.fn.types l.scopes l.types × IsFillingIn (length l.types.forms) l.all × AreEntriesIn l.types l.all.waits.items
