use Rattle.std.proofs.Common.{◌≡◌, map, drop}
use Rattle.c_ast.specs.Levels.{no_name_lists}
use Rattle.c_ast.specs.Views.{suffixes_of}
use Rattle.c_ast.specs.Seen.{suffix_seen}
use Rattle.c_expr.proofs.traits_of_trees.has_name_list.Given as goal

-- those behind say the same
abbrev pub invariant-loop-suffix : goal.invariant-loop-suffix
invariant-loop-suffix l =
    no_name_lists (suffixes_of (map suffix_seen (drop l.suffix-index l.suffixes))) ≡ no_name_lists (suffixes_of (map suffix_seen l.suffixes))
