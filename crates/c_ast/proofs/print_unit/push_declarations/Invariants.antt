use Rattle.std.proofs.Common.{◌≡◌, ◌++◌, take, flat_map}
use Rattle.c_ast.specs.UnitValueTexts.{declaration_shown}
use Rattle.c_ast.proofs.print_unit.push_declarations.Given as goal

abbrev pub invariant-loop-declaration : goal.invariant-loop-declaration
invariant-loop-declaration l = l.out ≡ l.fn.out ++ flat_map declaration_shown (take l.declaration-index l.declarations)
