use Rattle.std.proofs.Common.{◌≤◌, length, map, sym, ◌∙◌, arith}
use Rattle.std.proofs.lemmas.List.{at_drop_all}
use Rattle.c_ast.specs.ExprMarks.{any_typedef}
use Rattle.c_ast.specs.Views.{specifier_list_of}
use Rattle.c_ast.specs.Seen.{specifier_seen}
use Rattle.c_expr.proofs.Searches.{at_specifier, behind_specifier}
use Rattle.c_expr.proofs.traits_of_trees.any_typedef.Goals as goal

pub returns-then-makes_typedef : goal.returns-then-makes_typedef
returns-then-makes_typedef c =
    sym (sym c.loop-specifier.invariant ∙ at_specifier c.args.specifiers.now c.loop-specifier.specifier-index c.specifier-item.result (omega arith) c.specifier-item.is (sym c.makes_typedef.ensures ∙ c.if-makes_typedef.true))

pub loop-specifier-preserved : goal.loop-specifier-preserved
loop-specifier-preserved c =
    sym (behind_specifier c.args.specifiers.now c.loop-specifier.specifier-index c.specifier-item.result (omega arith) c.specifier-item.is (sym c.makes_typedef.ensures ∙ c.if-makes_typedef.false)) ∙ c.loop-specifier.invariant

pub returns : goal.returns
returns c =
    let none : length c.args.specifiers.now ≤ c.loop-specifier.specifier-index = omega arith in
    sym (sym c.loop-specifier.invariant ∙ at_drop_all (λ xs. any_typedef (specifier_list_of (map specifier_seen xs))) c.args.specifiers.now c.loop-specifier.specifier-index none)
