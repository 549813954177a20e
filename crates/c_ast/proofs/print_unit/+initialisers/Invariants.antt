use Rattle.std.proofs.Common.{◌≡◌, ◌++◌, take, flat_map}
use Rattle.c_ast.specs.TreeTexts.{behind_comma}
use Rattle.c_ast.specs.UnitValueTexts.{initialiser_shown}
use Rattle.c_ast.proofs.print_unit.+initialisers.Given as goal

abbrev pub invariant-push_initialisers-loop-item : goal.invariant-push_initialisers-loop-item
invariant-push_initialisers-loop-item l = l.out ≡ l.initial.out ++ flat_map (behind_comma initialiser_shown) (take l.item-index l.rest)
