use Rattle.std.proofs.Common.{◌≡◌, true, false, sym, ap, ◌∙◌}
use Rattle.c_types.specs.Table.{tags, type_at}
use Rattle.c_meaning.specs.declared.core_expr.CoreKind.TheVariants as kind
use Rattle.c_meaning.specs.CoreTrees.{Core, all_seen, cores_of}
use Rattle.c_meaning.specs.ExprConstraints.{is_last_open}
use Rattle.c_meaning.specs.Rows.{last_type}
use Rattle.c_meaning.specs.Nodes as node
use Rattle.c_meaning.specs.Constraints.{value_types}
use Rattle.c_meaning.specs.Typing.{Fine, at_expr}
use Rattle.c_check_expr.specs.AtNode.{IsRefused}
use Rattle.c_meaning.specs.Values.{CoreTree, values}
use Rattle.c_check_expr.proofs.CallNodes.{all_within, comma_deep, comma_fine, comma_refused, told_some_deep}
use Rattle.c_check_expr.proofs.NodeTells.{passed_on}
use Rattle.c_check_expr.proofs.calls.comma.Goals as goal

pub returns-clause-ok : goal.returns-clause-ok
returns-clause-ok c =
    let t = c.args.types.now in
    let u = c.into_values.new.types in
    let cs = all_seen (type_at t) (cores_of c.args.parts) in
    let vs = all_seen (type_at u) (cores_of c.in_ok-kids.kids) in
    let not_open : is_last_open (tags t) (values cs) ≡ false =
    sym (c.ends_open.ensures ∙ ap (λ l. is_last_open (tags t) (values (all_seen (type_at t) (cores_of l)))) c.as_slice.ensures) ∙ c.if-ends_open.false in
    let m : vs ≡ values cs = c.in_ok-kids.ensures.means in
    let of : type_at u c.last_type-of.result ≡ last_type (values cs) =
    c.last_type-of.ensures.means ∙ ap (λ l. last_type (all_seen (type_at u) (cores_of l))) c.as_slice-2.ensures ∙ ap last_type m in
    λ s h.
    comma_fine s (tags t) c.args.line cs h c.in_ok-kids.ensures.shallow not_open (all_within t c.types_are_within_limits.ensures (cores_of c.args.parts) c.requires)
    ∙ ap (λ (z : CoreTree). Fine s z) (sym (ap (λ x. Core kind.Comma x c.args.line vs) of ∙ ap (Core kind.Comma (last_type (values cs)) c.args.line) m))

pub returns-then-ends_open-clause-err : goal.returns-then-ends_open-clause-err
returns-then-ends_open-clause-err c =
    let t = c.args.types.now in
    let cs = all_seen (type_at t) (cores_of c.args.parts) in
    let bare : is_last_open (tags t) (values cs) ≡ true =
    sym (c.ends_open.ensures ∙ ap (λ l. is_last_open (tags t) (values (all_seen (type_at t) (cores_of l)))) c.as_slice.ensures) ∙ c.if-ends_open.true in
    λ s h. comma_refused s (tags t) c.args.line cs h bare

pub returns-in_err-kids-clause-err : goal.returns-in_err-kids-clause-err
returns-in_err-kids-clause-err c =
    let t = c.args.types.now in
    let cs = all_seen (type_at t) (cores_of c.args.parts) in
    let not_open : is_last_open (tags t) (values cs) ≡ false =
    sym (c.ends_open.ensures ∙ ap (λ l. is_last_open (tags t) (values (all_seen (type_at t) (cores_of l)))) c.as_slice.ensures) ∙ c.if-ends_open.false in
    let w = all_within t c.types_are_within_limits.ensures (cores_of c.args.parts) c.requires in
    let n = node.Comma cs in
    let e = c.in_err-kids.field-0.0 in
    passed_on c.from_residual.result e (IsRefused t c.args.line n) c.from_residual.ensures.1
    (λ s h. told_some_deep e c.args.line (value_types cs) (at_expr s c.args.line n) c.in_err-kids.ensures.deep (comma_deep s (tags t) c.args.line cs h not_open w))
