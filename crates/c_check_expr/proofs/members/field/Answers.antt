use Rattle.std.proofs.Common.{◌≡◌, ◌++◌, ◌∷◌, [], refl, sym, ap, subst, ◌∙◌}
use Rattle.std.specs.Prelude.{is_some}
use Rattle.std.specs.Result.{IsErrAnd}
use Rattle.c_types.specs.Table.{member_types, tags, type_at, types}
use Rattle.c_meaning.specs.Nodes as node
use Rattle.c_meaning.specs.State.{State}
use Rattle.c_meaning.specs.TypeRows.{member, name_or_empty}
use Rattle.c_meaning.specs.Types.{has_size}
use Rattle.c_meaning.specs.Typing.{at}
use Rattle.c_values.specs.declared.check_fault.CheckFault.TheVariants.{Constraint}
use Rattle.c_check_expr.specs.AtNode.{Tells}
use Rattle.c_check_expr.specs.PartsSeen.{size_seen}
use Rattle.c_check_expr.proofs.FieldNodes.{name_broken, none_broken, object_broken, width_broken}
use Rattle.c_check_expr.proofs.Handed.{handed_on}
use Rattle.c_check_expr.proofs.MemberLists.{member_types-append, members_below-append, repeats_seen}
use Rattle.c_check_expr.proofs.TypeNodes.{node_breaks, node_fine}
use Rattle.c_check_expr.proofs.members.field.Goals as goal

pub returns-then-is_repeated-clause-err : goal.returns-then-is_repeated-clause-err
returns-then-is_repeated-clause-err c = λ s h.
    let t = c.args.types.now in
    let before = member_types (types t) c.args.members.now in
    let name = c.args.shape.name in
    let of = type_at t c.args.shape.of in
    let w = size_seen t c.args.width in
    let r = sym (repeats_seen s (types t) c.args.members.now name of w) ∙ sym c.is_repeated.ensures in
    node_breaks s c.args.line (node.Field before name of w) s (member name of w) 9 (name_broken s before name of w (r ∙ c.if-is_repeated.true))

pub returns-then-is_none-clause-err : goal.returns-then-is_none-clause-err
returns-then-is_none-clause-err c = λ s h.
    let t = c.args.types.now in
    let before = member_types (types t) c.args.members.now in
    let name = c.args.shape.name in
    let of = type_at t c.args.shape.of in
    let w = size_seen t c.args.width in
    let r = sym (repeats_seen s (types t) c.args.members.now name of w) ∙ sym c.is_repeated.ensures in
    node_breaks s c.args.line (node.Field before name of w) s (member name of w) 10 (object_broken s before name of w (r ∙ c.if-is_repeated.false) (ap (λ ts. has_size ts of) h ∙ sym (ap is_some c.size.ensures) ∙ c.if-is_none.ensures))

pub returns-in_err-bits-clause-err : goal.returns-in_err-bits-clause-err
returns-in_err-bits-clause-err c =
    let t = c.args.types.now in
    let before = member_types (types t) c.args.members.now in
    let name = c.args.shape.name in
    let of = type_at t c.args.shape.of in
    let w = size_seen t c.args.width in
    handed_on c.from_residual.result (Constraint 11 c.args.line) (λ e. (s : State) → s.tags ≡ tags t → Tells e (at s c.args.line (node.Typing (node.Field before name of w)) s (member name of w)))
    (subst (λ e. IsErrAnd c.from_residual.result (λ x. x ≡ e)) c.in_err-bits.ensures.err c.from_residual.ensures.1)
    (λ s h.
    let r = sym (repeats_seen s (types t) c.args.members.now name of w) ∙ sym c.is_repeated.ensures in
    node_breaks s c.args.line (node.Field before name of w) s (member name of w) 11
    (width_broken s before name of w (r ∙ c.if-is_repeated.false) (ap (λ ts. has_size ts of) h ∙ sym (ap is_some c.size.ensures) ∙ c.if-is_none.ensures) (c.in_err-bits.ensures.bad s before)))

pub returns-clause-ok : goal.returns-clause-ok
returns-clause-ok c = λ s h.
    let t = c.args.types.now in
    let before = member_types (types t) c.args.members.now in
    let name = c.args.shape.name in
    let of = type_at t c.args.shape.of in
    let w = size_seen t c.args.width in
    let r = sym (repeats_seen s (types t) c.args.members.now name of w) ∙ sym c.is_repeated.ensures in
    node_fine s c.args.line (node.Field before name of w) s (member name of w) (none_broken s before name of w (r ∙ c.if-is_repeated.false) (ap (λ ts. has_size ts of) h ∙ sym (ap is_some c.size.ensures) ∙ c.if-is_none.ensures) (c.in_ok-bits.ensures.good s before)) refl

pub returns-clause-added : goal.returns-clause-added
returns-clause-added c =
    let t = c.args.types.now in
    let p = c.in_ok-push.ensures in
    let b = c.in_ok-bits.ensures.ok in
    ap (member_types (types t)) p ∙ member_types-append (types t) c.args.members.now _ ∙ ap (λ w. member_types (types t) c.args.members.now ++ record { name = name_or_empty c.args.shape.name; of = type_at t c.args.shape.of; width = w } ∷ []) b

pub returns-clause-within : goal.returns-clause-within
returns-clause-within c = rw c.in_ok-push.ensures (members_below-append _ c.args.members.now _ c.requires.members c.requires.of)
