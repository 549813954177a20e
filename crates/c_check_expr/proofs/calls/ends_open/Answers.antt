use Rattle.std.proofs.Common.{◌<◌, ◌-◌, length, sym, ap, ◌∙◌, subst, arith}
use Rattle.c_types.specs.Table.{tags, type_at}
use Rattle.c_meaning.specs.CoreTrees.{IsIn, seen}
use Rattle.c_meaning.specs.ExprConstraints.{is_open_record}
use Rattle.c_meaning.specs.Values.{value_type}
use Rattle.c_values.proofs.lemmas.ManyValues.{in_at, open_at}
use Rattle.c_check_expr.proofs.calls.ends_open.Goals as goal

pub value_type-requires : goal.value_type-requires
value_type-requires c =
    let ps = c.args.parts.now in
    let n = length c.args.types.now.forms in
    let l : length ps - 1 < length ps = omega (arith, c.in-len1-up.len_at_least) in
    subst (IsIn n) (sym c.last-item.is) (in_at n ps (length ps - 1) c.last-item.result l c.requires)

pub returns-in-len1-up : goal.returns-in-len1-up
returns-in-len1-up c =
    let t = c.args.types.now in
    let k = type_at t in
    let ps = c.args.parts.now in
    c.is_open_record.ensures ∙ ap (is_open_record (tags t)) c.value_type.ensures.is
    ∙ ap (λ z. is_open_record (tags t) (value_type (seen k z))) c.last-item.is
    ∙ sym (open_at (tags t) k ps (length ps - 1) c.last-item.result (omega (arith, c.in-len1-up.len_at_least)))
