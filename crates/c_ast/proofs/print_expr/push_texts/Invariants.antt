use Rattle.std.proofs.Common.{◌≡◌, ◌++◌, take, flat_map}
use Rattle.c_ast.specs.TreeTexts.{literal_text}
use Rattle.c_ast.proofs.print_expr.push_texts.Given as goal

abbrev pub invariant-loop-text : goal.invariant-loop-text
invariant-loop-text l = l.out ≡ l.fn.out ++ flat_map literal_text (take l.text-index l.texts)
