use Rattle.std.proofs.Common.{◌≡◌, max, drop}
use Rattle.c_ast.specs.ValueHeights.{capped, most}
use Rattle.c_ast.specs.UnitValueHeights.{external_high}
use Rattle.c_ast.proofs.unit_height.externals_height.Given as goal

abbrev pub invariant-loop-external : goal.invariant-loop-external
invariant-loop-external l = max l.most (capped (most external_high (drop l.external-index l.externals))) ≡ capped (most external_high l.externals)
