use Rattle.std.proofs.Common.{◌≡◌, max, drop}
use Rattle.c_ast.specs.ValueHeights.{capped, most}
use Rattle.c_ast.specs.UnitValueHeights.{statement_high}
use Rattle.c_ast.proofs.unit_height.+statements.Given as goal

abbrev pub invariant-statements_height-loop-statement : goal.invariant-statements_height-loop-statement
invariant-statements_height-loop-statement l = max l.most (capped (most statement_high (drop l.statement-index l.statements))) ≡ capped (most statement_high l.statements)
