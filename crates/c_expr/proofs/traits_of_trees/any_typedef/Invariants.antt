use Rattle.std.proofs.Common.{◌≡◌, map, drop}
use Rattle.c_ast.specs.ExprMarks.{any_typedef}
use Rattle.c_ast.specs.Views.{specifier_list_of}
use Rattle.c_ast.specs.Seen.{specifier_seen}
use Rattle.c_expr.proofs.traits_of_trees.any_typedef.Given as goal

-- those behind say the same
abbrev pub invariant-loop-specifier : goal.invariant-loop-specifier
invariant-loop-specifier l =
    any_typedef (specifier_list_of (map specifier_seen (drop l.specifier-index l.specifiers))) ≡ any_typedef (specifier_list_of (map specifier_seen l.specifiers))
