use Rattle.std.proofs.Common.{drop}
use Rattle.c_check_expr.specs.Keeps.{Keeps}
use Rattle.c_check_function.proofs.OldLists.{OldsGoing}
use Rattle.c_check_function.proofs.old_declarations.old_parameters.Given as goal

abbrev pub invariant-loop-i : goal.invariant-loop-i
invariant-loop-i l = record { going : OldsGoing l.fn.scopes l.fn.types l.line l.listed.0.now l.listed.1.now l.list l.scopes l.types (drop l.i-index l.list); kept : Keeps l.fn.scopes l.fn.types l.scopes l.types }
