use Rattle.std.proofs.Common.{◌≡◌, ◌++◌, take, flat_map}
use Rattle.c_ast.specs.TreeTexts.{behind_comma}
use Rattle.c_ast.specs.UnitValueTexts.{init_shown}
use Rattle.c_ast.proofs.print_unit.push_inits.Given as goal

abbrev pub invariant-loop-init : goal.invariant-loop-init
invariant-loop-init l = l.out ≡ l.initial.out ++ flat_map (behind_comma init_shown) (take l.init-index l.rest)
