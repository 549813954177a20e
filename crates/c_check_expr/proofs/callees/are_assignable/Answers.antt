use Rattle.std.proofs.Common.{◌≡◌, length, drop, sym, ap, ◌∙◌, arith}
use Rattle.c_types.specs.Table.{type_at, types, types_in}
use Rattle.c_meaning.specs.CoreTrees.{all_seen, cores_of}
use Rattle.c_meaning.specs.ExprConstraints.{all_assignable}
use Rattle.c_meaning.specs.Values.{values}
use Rattle.c_values.proofs.lemmas.ManyValues.{no_items, none_assignable}
use Rattle.c_check_expr.proofs.callees.are_assignable.Goals as goal

pub returns-in_default : goal.returns-in_default
returns-in_default c =
    let t = c.args.types.now in
    let ps = types_in (types t) (drop c.loop-to.to-index c.args.parameters.now) in
    let none : length c.loop-to.left.now ≡ 0 = omega (arith, c.in_default.len_below) in
    sym (ap (λ l. all_assignable ps (values (all_seen (type_at t) (cores_of l)))) (no_items c.loop-to.left.now none) ∙ none_assignable ps) ∙ c.loop-to.invariant.means
