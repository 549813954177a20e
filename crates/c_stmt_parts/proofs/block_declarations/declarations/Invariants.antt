use Rattle.std.proofs.Common.{drop}
use Rattle.c_check_expr.specs.Keeps.{Keeps}
use Rattle.c_stmt_parts.proofs.DeclarationLists.{DeclarationsGoing}
use Rattle.c_stmt_parts.proofs.block_declarations.declarations.Given as goal

abbrev pub invariant-loop-d : goal.invariant-loop-d
invariant-loop-d l = record { going : DeclarationsGoing l.fn.scopes l.fn.types l.list l.scopes l.types l.all (drop l.d-index l.list); kept : Keeps l.fn.scopes l.fn.types l.scopes l.types }
