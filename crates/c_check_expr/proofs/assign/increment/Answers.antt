use Rattle.std.proofs.Common.{refl, sym, ap, subst, ◌∙◌}
use Rattle.c_types.specs.Facts.{IsWithin}
use Rattle.c_types.specs.Layout.{known}
use Rattle.c_types.specs.Table.{tags, type_at}
use Rattle.c_meaning.specs.CoreTrees.{seen, type_of}
use Rattle.c_meaning.specs.Nodes as node
use Rattle.c_meaning.specs.Typing.{Fine}
use Rattle.c_meaning.specs.Values.{CoreTree}
use Rattle.c_ast.specs.declared.operator.PrefixOperator.TheVariants as prefix
use Rattle.c_check_expr.specs.Changing.{step_broken}
use Rattle.c_check_expr.proofs.ChangeNodes.{broken_by, increment_fine}
use Rattle.c_values.specs.Stays.{type_in_table, type_seen}
use Rattle.c_check_expr.proofs.assign.increment.Goals as goal

pub returns-clause-ok : goal.returns-clause-ok
returns-clause-ok c =
    let t = c.args.types.now in
    let k = type_at t in
    let a = seen k c.args.a in
    let w : IsWithin (known (tags t)) (type_of a) = subst (IsWithin (known (tags t))) (sym (type_seen k c.args.a)) (c.types_are_within_limits.ensures (type_of c.args.a) (type_in_table _ c.args.a c.requires)) in
    λ s h. increment_fine s (tags t) c.args.line a h (sym c.in_default.ensures) w ∙ ap (λ (x : CoreTree). Fine s x) (sym c.in_ok-core.ensures.means)

pub returns-in-Some-clause-err : goal.returns-in-Some-clause-err
returns-in-Some-clause-err c =
    let t = c.args.types.now in
    let a = seen (type_at t) c.args.a in
    λ s h. broken_by s (tags t) c.args.line c.in-Some.number (node.Prefix prefix.Increment a) (λ z. step_broken z a) refl h (sym c.in-Some.ensures)
