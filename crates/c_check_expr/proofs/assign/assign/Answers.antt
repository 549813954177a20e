use Rattle.std.proofs.Common.{◌≡◌, List, sym, ap, subst, ◌∙◌}
use Rattle.c_types.specs.Facts.{IsWithin}
use Rattle.c_types.specs.Layout.{Tag, known}
use Rattle.c_types.specs.Table.{tags, type_at}
use Rattle.c_meaning.specs.CoreTrees.{seen, type_of}
use Rattle.c_meaning.specs.Rows.{assigned}
use Rattle.c_meaning.specs.ExprConstraints.{can_assign}
use Rattle.c_meaning.specs.Nodes as node
use Rattle.c_meaning.specs.Typing.{Fine, at_expr}
use Rattle.c_check_expr.specs.AtNode.{IsRefused}
use Rattle.c_meaning.specs.Values.{CoreTree, value, value_type}
use Rattle.c_check_expr.proofs.ChangeNodes.{assign_deep, assign_fine, assign_kinds, assign_refused, told_deep}
use Rattle.c_check_expr.proofs.NodeTells.{passed_on}
use Rattle.c_values.specs.Stays.{in_later, seen_stays, type_in_table, type_seen}
use Rattle.c_check_expr.proofs.assign.assign.Goals as goal

pub returns-clause-ok : goal.returns-clause-ok
returns-clause-ok c =
    let t = c.args.types.now in
    let u = c.into_value.new.types in
    let k = type_at t in
    let a = seen k c.args.a in
    let b = seen k c.args.b in
    let grows = c.in_ok-w.ensures.grows in
    let v : IsWithin (known (tags t)) (type_of a) = subst (IsWithin (known (tags t))) (sym (type_seen k c.args.a)) (c.types_are_within_limits.ensures (type_of c.args.a) (type_in_table _ c.args.a c.requires.a)) in
    let w : IsWithin (known (tags t)) (type_of b) = subst (IsWithin (known (tags t))) (sym (type_seen k c.args.b)) (c.types_are_within_limits.ensures (type_of c.args.b) (type_in_table _ c.args.b c.requires.b)) in
    let same : assigned (tags u) c.args.line c.args.op (seen (type_at u) c.args.a) (seen (type_at u) c.in_ok-w.w) ≡ assigned (tags t) c.args.line c.args.op a (value b) =
    ap (λ (z : CoreTree). assigned (tags u) c.args.line c.args.op z (seen (type_at u) c.in_ok-w.w)) (seen_stays t u grows.extends c.args.a c.requires.a)
    ∙ ap (assigned (tags u) c.args.line c.args.op a) c.in_ok-w.ensures.means
    ∙ ap (λ (z : List Tag). assigned z c.args.line c.args.op a (value b)) grows.tags_same in
    λ s h. assign_fine s (tags t) c.args.line c.args.op a b h c.in_ok-w.ensures.shallow (sym c.in_default.ensures) v w ∙ ap (λ (x : CoreTree). Fine s x) (sym (c.in_ok-core.ensures.means ∙ same))

pub returns-in-Some-clause-err : goal.returns-in-Some-clause-err
returns-in-Some-clause-err c =
    let t = c.args.types.now in
    let a = seen (type_at t) c.args.a in
    let b = seen (type_at t) c.args.b in
    λ s h. assign_refused s (tags t) c.args.line c.in-Some.number c.args.op a b h (sym c.in-Some.ensures)

pub returns-in_err-w-clause-err : goal.returns-in_err-w-clause-err
returns-in_err-w-clause-err c =
    let t = c.args.types.now in
    let k = type_at t in
    let a = seen k c.args.a in
    let b = seen k c.args.b in
    let v : IsWithin (known (tags t)) (type_of a) = subst (IsWithin (known (tags t))) (sym (type_seen k c.args.a)) (c.types_are_within_limits.ensures (type_of c.args.a) (type_in_table _ c.args.a c.requires.a)) in
    let w : IsWithin (known (tags t)) (type_of b) = subst (IsWithin (known (tags t))) (sym (type_seen k c.args.b)) (c.types_are_within_limits.ensures (type_of c.args.b) (type_in_table _ c.args.b c.requires.b)) in
    let n = node.Assign c.args.op a b in
    let e = c.in_err-w.field-0.0 in
    passed_on c.from_residual.result e (IsRefused t c.args.line n) c.from_residual.ensures.1
    (λ s h. told_deep e c.args.line (value_type b) (at_expr s c.args.line n) c.in_err-w.ensures.deep (assign_deep s (tags t) c.args.line c.args.op a b h (sym c.in_default.ensures) v w))

pub assigned-requires-clause-a : goal.assigned-requires-clause-a
assigned-requires-clause-a c = in_later c.args.types.now c.into_value.new.types c.in_ok-w.ensures.grows.extends c.args.a c.requires.a

pub assigned-requires-clause-kinds : goal.assigned-requires-clause-kinds
assigned-requires-clause-kinds c =
    let t = c.args.types.now in
    let u = c.into_value.new.types in
    let a = seen (type_at t) c.args.a in
    let b = seen (type_at t) c.args.b in
    let g = c.in_ok-w.ensures.grows.extends in
    let to : type_at u (type_of c.args.a) ≡ type_of a = g.types_stay (type_of c.args.a) (type_in_table _ c.args.a c.requires.a) ∙ sym (type_seen (type_at t) c.args.a) in
    let from : type_at u (type_of c.in_ok-w.w) ≡ value_type b = sym (type_seen (type_at u) c.in_ok-w.w) ∙ ap type_of c.in_ok-w.ensures.means in
    ap (λ z. can_assign c.args.op z (type_at u (type_of c.in_ok-w.w))) to ∙ ap (can_assign c.args.op (type_of a)) from
    ∙ assign_kinds (tags t) c.args.op a b (sym c.in_default.ensures)
