use Rattle.std.proofs.Common.{◌∙◌, sym, ap}
use Rattle.std.proofs.lemmas.Result.{err_from_is_err_and}
use Rattle.c_types.specs.Conversions.{is_integer}
use Rattle.c_types.specs.Table.{type_at}
use Rattle.c_meaning.specs.CoreTrees.{seen}
use Rattle.c_check_expr.proofs.OneOperand.{sign_broken, sign_deep, sign_fine}
use Rattle.c_check_expr.proofs.TableLimits.{small_in}
use Rattle.c_check_expr.proofs.unary.unary.Goals as goal

pub returns-then-not-is_integer-clause-err : goal.returns-then-not-is_integer-clause-err
returns-then-not-is_integer-clause-err c = λ s h.
    sign_broken s c.args.line c.args.op (seen (type_at c.args.types.now) c.args.a) (ap is_integer (sym c.value_type.ensures.is) ∙ sym c.is_integer.ensures ∙ c.if-not-is_integer.true)

pub returns-in_err-v-clause-err : goal.returns-in_err-v-clause-err
returns-in_err-v-clause-err c =
    let t = c.args.types.now in
    let p = err_from_is_err_and c.from_residual.result c.from_residual.ensures.1 in
    rw (p.1, p.2)
    (λ s h.
    let test = ap is_integer (sym c.value_type.ensures.is) ∙ sym c.is_integer.ensures ∙ c.if-not-is_integer.false in
    sign_deep s c.args.line c.args.op (seen (type_at t) c.args.a) _ test (small_in s t h c.types_are_within_limits.ensures c.args.a c.requires) c.in_err-v.ensures.deep)

pub returns-clause-ok : goal.returns-clause-ok
returns-clause-ok c = λ s h.
    let t = c.args.types.now in
    let test = ap is_integer (sym c.value_type.ensures.is) ∙ sym c.is_integer.ensures ∙ c.if-not-is_integer.false in
    rw (c.in_ok-with_one.ensures, c.in_ok-v-2.ensures.means, c.promoted_type-of.ensures.means, c.in_ok-v.ensures.means)
    (sign_fine s c.args.line c.args.op (seen (type_at t) c.args.a) test (small_in s t h c.types_are_within_limits.ensures c.args.a c.requires) c.in_ok-v.ensures.shallow)
