use Rattle.std.proofs.Common.{◌≡◌, max, drop}
use Rattle.c_ast.specs.ValueHeights.{capped, most}
use Rattle.c_ast.specs.UnitValueHeights.{declaration_high}
use Rattle.c_ast.proofs.unit_height.declarations_height.Given as goal

abbrev pub invariant-loop-declaration : goal.invariant-loop-declaration
invariant-loop-declaration l = max l.most (capped (most declaration_high (drop l.declaration-index l.declarations))) ≡ capped (most declaration_high l.declarations)
