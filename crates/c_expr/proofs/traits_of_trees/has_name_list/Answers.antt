use Rattle.std.proofs.Common.{◌≤◌, length, not, map, sym, ap, ◌∙◌, arith}
use Rattle.std.proofs.lemmas.List.{at_drop_all}
use Rattle.c_ast.specs.Levels.{no_name_lists}
use Rattle.c_ast.specs.Views.{suffixes_of}
use Rattle.c_ast.specs.Seen.{suffix_seen}
use Rattle.c_expr.proofs.Searches.{at_suffix, behind_suffix}
use Rattle.c_expr.proofs.traits_of_trees.has_name_list.Goals as goal

pub returns-then-is_name_list : goal.returns-then-is_name_list
returns-then-is_name_list c =
    sym (ap not (sym c.loop-suffix.invariant ∙ at_suffix c.args.suffixes.now c.loop-suffix.suffix-index c.suffix-item.result (omega arith) c.suffix-item.is (sym c.is_name_list.ensures ∙ c.if-is_name_list.true)))

pub loop-suffix-preserved : goal.loop-suffix-preserved
loop-suffix-preserved c =
    sym (behind_suffix c.args.suffixes.now c.loop-suffix.suffix-index c.suffix-item.result (omega arith) c.suffix-item.is (sym c.is_name_list.ensures ∙ c.if-is_name_list.false)) ∙ c.loop-suffix.invariant

pub returns : goal.returns
returns c =
    let none : length c.args.suffixes.now ≤ c.loop-suffix.suffix-index = omega arith in
    sym (ap not (sym c.loop-suffix.invariant ∙ at_drop_all (λ xs. no_name_lists (suffixes_of (map suffix_seen xs))) c.args.suffixes.now c.loop-suffix.suffix-index none))
