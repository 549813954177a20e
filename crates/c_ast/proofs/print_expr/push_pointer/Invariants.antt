use Rattle.std.proofs.Common.{◌≡◌, ◌++◌, take, flat_map}
use Rattle.c_ast.specs.TreeTexts.{qualifier_text}
use Rattle.c_ast.proofs.print_expr.push_pointer.Given as goal

abbrev pub invariant-loop-qualifier : goal.invariant-loop-qualifier
invariant-loop-qualifier l = l.out ≡ l.initial.out ++ flat_map qualifier_text (take l.qualifier-index l.qualifiers)
