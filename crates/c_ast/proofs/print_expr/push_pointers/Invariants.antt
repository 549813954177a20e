use Rattle.std.proofs.Common.{◌≡◌, ◌++◌, take, flat_map}
use Rattle.c_ast.specs.TreeTexts.{pointer_text}
use Rattle.c_ast.proofs.print_expr.push_pointers.Given as goal

abbrev pub invariant-loop-qualifiers : goal.invariant-loop-qualifiers
invariant-loop-qualifiers l = l.out ≡ l.fn.out ++ flat_map pointer_text (take l.qualifiers-index l.pointers)
