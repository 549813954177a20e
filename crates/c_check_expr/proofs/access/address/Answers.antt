use Rattle.std.proofs.Common.{◌∙◌, sym, ap, subst}
use Rattle.std.proofs.lemmas.Result.{err_from_is_err_and}
use Rattle.c_types.specs.CType.{CType}
use Rattle.c_types.specs.Table.{type_at}
use Rattle.c_meaning.specs.CoreTrees.{seen, type_of}
use Rattle.c_meaning.specs.Types.{pointer_to}
use Rattle.c_values.specs.TooDeep.{IsTooDeep}
use Rattle.c_values.specs.PlainTypes.{plain_type}
use Rattle.c_check_expr.proofs.NodeLimits.{IsShallow}
use Rattle.c_check_expr.proofs.Reached.{address_broken, address_deep, address_fine}
use Rattle.c_values.specs.Stays.{in_later, seen_stays, type_seen}
use Rattle.c_check_expr.proofs.TableLimits.{small_in}
use Rattle.c_check_expr.proofs.access.address.Goals as goal

pub returns-then-not-is_addressable-clause-err : goal.returns-then-not-is_addressable-clause-err
returns-then-not-is_addressable-clause-err c = λ s h. address_broken s c.args.line _ (sym c.is_addressable.ensures ∙ c.if-not-is_addressable.true)

pub returns-in_err-of-clause-err : goal.returns-in_err-of-clause-err
returns-in_err-of-clause-err c =
    let t = c.args.types.now in
    let same = plain_type t c.plain.result (type_of c.args.a) (c.plain.ensures.of ∙ ap type_of c.a.view_is) c.plain.ensures.qualifiers ∙ sym (type_seen (type_at t) c.args.a) in
    let p = err_from_is_err_and c.from_residual.result c.from_residual.ensures.1 in
    rw (p.1, p.2)
    (λ s h.
    address_deep s c.args.line (seen (type_at t) c.args.a) _ (sym c.is_addressable.ensures ∙ c.if-not-is_addressable.false)
    (small_in s t h c.types_are_within_limits.ensures c.args.a c.requires)
    (subst (λ (u : CType). IsTooDeep c.in_err-of.field-0.0 c.args.line (pointer_to u)) same c.in_err-of.ensures.deep))

pub returns-clause-ok : goal.returns-clause-ok
returns-clause-ok c = λ s h.
    let t = c.args.types.now in
    let same = plain_type t c.plain.result (type_of c.args.a) (c.plain.ensures.of ∙ ap type_of c.a.view_is) c.plain.ensures.qualifiers ∙ sym (type_seen (type_at t) c.args.a) in
    rw (c.in_ok-with_one.ensures, c.in_ok-of.ensures.means, same, seen_stays t _ c.in_ok-of.ensures.grows.extends c.args.a c.requires)
    (address_fine s c.args.line (seen (type_at t) c.args.a) (sym c.is_addressable.ensures ∙ c.if-not-is_addressable.false)
    (small_in s t h c.types_are_within_limits.ensures c.args.a c.requires)
    (subst (λ (u : CType). IsShallow (pointer_to u)) same c.in_ok-of.ensures.shallow))

pub returns-clause-within : goal.returns-clause-within
returns-clause-within c =
    rw (c.in_ok-with_one.ensures)
    (c.in_ok-of.ensures.within, (in_later c.args.types.now _ c.in_ok-of.ensures.grows.extends c.args.a c.requires, tt))
