use Rattle.std.proofs.Common.{◌≡◌, ◌++◌, take, flat_map}
use Rattle.c_ast.specs.UnitValueTexts.{external_shown}
use Rattle.c_ast.proofs.print_unit.push_externals.Given as goal

abbrev pub invariant-loop-external : goal.invariant-loop-external
invariant-loop-external l = l.out ≡ l.fn.out ++ flat_map external_shown (take l.external-index l.externals)
