use Rattle.std.proofs.Common.{◌<◌, ◌-◌, length, sym, ap, ◌∙◌, subst, arith}
use Rattle.c_types.specs.CType.{unqualified}
use Rattle.c_types.specs.Table.{type_at}
use Rattle.c_meaning.specs.CoreTrees.{IsIn, seen, type_of}
use Rattle.c_values.proofs.lemmas.ManyValues.{in_at, last_type_at}
use Rattle.c_values.specs.Stays.{type_in_table, type_seen}
use Rattle.c_check_expr.proofs.calls.last_type.Goals as goal

pub unqualified_type-requires : goal.unqualified_type-requires
unqualified_type-requires c =
    let vs = c.args.values.now in
    let n = length c.args.types.now.forms in
    let l : length vs - 1 < length vs = omega (arith, c.in-len1-up.len_at_least) in
    let i : IsIn n c.last-item.result = subst (IsIn n) (sym c.last-item.is) (in_at n vs (length vs - 1) c.last-item.result l c.requires) in
    subst (λ z. z < n) (sym (ap type_of c.last.view_is)) (type_in_table n c.last-item.result i)

pub returns-in-len1-up-clause-means : goal.returns-in-len1-up-clause-means
returns-in-len1-up-clause-means c =
    let k = type_at c.args.types.now in
    let vs = c.args.values.now in
    c.unqualified_type.ensures.means ∙ ap (λ z. unqualified (k (type_of z))) c.last.view_is
    ∙ ap unqualified (sym (type_seen k c.last-item.result))
    ∙ ap (λ z. unqualified (type_of (seen k z))) c.last-item.is
    ∙ sym (last_type_at k vs (length vs - 1) c.last-item.result (omega (arith, c.in-len1-up.len_at_least)))
