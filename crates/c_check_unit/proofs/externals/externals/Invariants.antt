use Rattle.std.proofs.Common.{drop}
use Rattle.c_check_expr.specs.Keeps.{Keeps}
use Rattle.c_check_unit.proofs.ExternalWalks.{ExternalsGoing}
use Rattle.c_check_unit.proofs.externals.externals.Given as goal

abbrev pub invariant-loop-e : goal.invariant-loop-e
invariant-loop-e l = record { going : ExternalsGoing l.fn.scopes l.fn.types l.list l.scopes l.types l.parts (drop l.e-index l.list); kept : Keeps l.fn.scopes l.fn.types l.scopes l.types }
