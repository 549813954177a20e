use Rattle.std.proofs.Common.{◌&&◌, map, sym, ap, ◌∙◌}
use Rattle.c_ast.specs.ExprMarks.{no_suffixes}
use Rattle.c_ast.specs.Views.{suffixes_of}
use Rattle.c_ast.specs.Seen.{suffix_seen}
use Rattle.c_expr.proofs.Bare.{no_pointers_if, no_suffixes_if}
use Rattle.c_expr.proofs.traits_of_trees.is_bare.Goals as goal

pub returns-then-is_empty : goal.returns-then-is_empty
returns-then-is_empty c =
    let none = no_pointers_if c.is_empty.result c.args.pointers.now c.is_empty.ensures in
    no_suffixes_if _ c.args.suffixes.now c.is_empty-then-is_empty.ensures ∙ ap (λ b. b && no_suffixes (suffixes_of (map suffix_seen c.args.suffixes.now))) (sym c.if-is_empty.true ∙ none)
