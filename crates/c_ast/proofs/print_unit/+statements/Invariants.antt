use Rattle.std.proofs.Common.{◌≡◌, ◌++◌, take, flat_map}
use Rattle.c_ast.specs.UnitValueTexts.{statement_shown}
use Rattle.c_ast.proofs.print_unit.+statements.Given as goal

abbrev pub invariant-push_statements-loop-statement : goal.invariant-push_statements-loop-statement
invariant-push_statements-loop-statement l = l.out ≡ l.fn.out ++ flat_map statement_shown (take l.statement-index l.statements)
