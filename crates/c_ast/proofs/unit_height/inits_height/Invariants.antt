use Rattle.std.proofs.Common.{◌≡◌, max, drop}
use Rattle.c_ast.specs.ValueHeights.{capped, most}
use Rattle.c_ast.specs.UnitValueHeights.{init_high}
use Rattle.c_ast.proofs.unit_height.inits_height.Given as goal

abbrev pub invariant-loop-init : goal.invariant-loop-init
invariant-loop-init l = max l.most (capped (most init_high (drop l.init-index l.inits))) ≡ capped (most init_high l.inits)
