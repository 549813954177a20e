use Rattle.std.proofs.Common.{drop}
use Rattle.c_check_expr.specs.Keeps.{Keeps}
use Rattle.c_check_function.proofs.OldLists.{DeclarationsGoing}
use Rattle.c_check_function.proofs.old_declarations.old_declarations.Given as goal

abbrev pub invariant-loop-d : goal.invariant-loop-d
invariant-loop-d l = record { going : DeclarationsGoing l.fn.scopes l.fn.types l.names l.list l.scopes l.types (drop l.d-index l.list); kept : Keeps l.fn.scopes l.fn.types l.scopes l.types }
