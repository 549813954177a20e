use Rattle.std.proofs.Common.{drop}
use Rattle.c_check_expr.specs.Keeps.{Keeps}
use Rattle.c_check_decl.proofs.InitLists.{InitsGoing}
use Rattle.c_check_decl.proofs.walk.inits.Given as goal

abbrev pub invariant-loop-i : goal.invariant-loop-i
invariant-loop-i l = record { going : InitsGoing l.fn.scopes l.fn.types l.line l.base l.list l.scopes l.types l.all (drop l.i-index l.list); kept : Keeps l.fn.scopes l.fn.types l.scopes l.types }
