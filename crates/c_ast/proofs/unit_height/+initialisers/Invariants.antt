use Rattle.std.proofs.Common.{◌≡◌, max, drop}
use Rattle.c_ast.specs.ValueHeights.{capped, most}
use Rattle.c_ast.specs.UnitValueHeights.{initialiser_high}
use Rattle.c_ast.proofs.unit_height.+initialisers.Given as goal

abbrev pub invariant-initialisers_height-loop-item : goal.invariant-initialisers_height-loop-item
invariant-initialisers_height-loop-item l = max l.most (capped (most initialiser_high (drop l.item-index l.items))) ≡ capped (most initialiser_high l.items)
