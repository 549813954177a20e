use Rattle.std.proofs.Common.{◌∙◌, sym, ap}
use Rattle.std.proofs.lemmas.Result.{err_from_is_err_and}
use Rattle.c_types.specs.Table.{type_at}
use Rattle.c_meaning.specs.CoreTrees.{seen}
use Rattle.c_meaning.specs.Types.{is_scalar}
use Rattle.c_check_expr.proofs.OneOperand.{not_broken, not_deep, not_fine}
use Rattle.c_check_expr.proofs.TableLimits.{small_in}
use Rattle.c_check_expr.proofs.unary.not.Goals as goal

pub returns-then-not-is_scalar-clause-err : goal.returns-then-not-is_scalar-clause-err
returns-then-not-is_scalar-clause-err c = λ s h.
    not_broken s c.args.line (seen (type_at c.args.types.now) c.args.a) (ap is_scalar (sym c.value_type.ensures.is) ∙ sym c.is_scalar.ensures ∙ c.if-not-is_scalar.true)

pub returns-in_err-v-clause-err : goal.returns-in_err-v-clause-err
returns-in_err-v-clause-err c =
    let t = c.args.types.now in
    let p = err_from_is_err_and c.from_residual.result c.from_residual.ensures.1 in
    rw (p.1, p.2)
    (λ s h.
    let test = ap is_scalar (sym c.value_type.ensures.is) ∙ sym c.is_scalar.ensures ∙ c.if-not-is_scalar.false in
    not_deep s c.args.line (seen (type_at t) c.args.a) _ test (small_in s t h c.types_are_within_limits.ensures c.args.a c.requires) c.in_err-v.ensures.deep)

pub returns-clause-ok : goal.returns-clause-ok
returns-clause-ok c = λ s h.
    let t = c.args.types.now in
    let test = ap is_scalar (sym c.value_type.ensures.is) ∙ sym c.is_scalar.ensures ∙ c.if-not-is_scalar.false in
    rw (c.in_ok-with_one.ensures, c.basic_type-of.ensures.is, c.basic_type-of.ensures.means, c.in_ok-v.ensures.means)
    (not_fine s c.args.line (seen (type_at t) c.args.a) test (small_in s t h c.types_are_within_limits.ensures c.args.a c.requires) c.in_ok-v.ensures.shallow)
