use Rattle.std.proofs.Common.{◌∙◌, sym}
use Rattle.std.proofs.lemmas.Result.{err_from_is_err_and}
use Rattle.c_types.specs.Table.{type_at}
use Rattle.c_meaning.specs.CoreTrees.{seen}
use Rattle.c_check_expr.proofs.OneOperand.{cast_broken, cast_deep, cast_fine}
use Rattle.c_check_expr.proofs.TableLimits.{shallow_at, small_at, small_in}
use Rattle.c_check_expr.proofs.unary.cast.Goals as goal

pub returns-then-is_bad_cast-clause-err : goal.returns-then-is_bad_cast-clause-err
returns-then-is_bad_cast-clause-err c = λ s h. cast_broken s c.args.line _ _ (sym (c.is_bad_cast.ensures s) ∙ c.if-is_bad_cast.true)

pub returns-in_err-v-clause-err : goal.returns-in_err-v-clause-err
returns-in_err-v-clause-err c =
    let t = c.args.types.now in
    let p = err_from_is_err_and c.from_residual.result c.from_residual.ensures.1 in
    rw (p.1, p.2)
    (λ s h.
    let w = c.types_are_within_limits.ensures in
    let fit = sym (c.is_bad_cast.ensures s) ∙ c.if-is_bad_cast.false in
    cast_deep s c.args.line (type_at t c.args.to) (seen (type_at t) c.args.a) _ fit
    (small_at s t h w c.args.to c.requires.to) (small_in s t h w c.args.a c.requires.a) c.in_err-v.ensures.deep)

pub returns-clause-ok : goal.returns-clause-ok
returns-clause-ok c = λ s h.
    let t = c.args.types.now in
    let w = c.types_are_within_limits.ensures in
    let fit = sym (c.is_bad_cast.ensures s) ∙ c.if-is_bad_cast.false in
    rw (c.in_ok-with_one.ensures, c.conversion.ensures, c.in_ok-v.ensures.grows.extends.types_stay c.unqualified_type-of.result c.unqualified_type-of.ensures.within, c.unqualified_type-of.ensures.means, c.in_ok-v.ensures.means)
    (cast_fine s c.args.line (type_at t c.args.to) (seen (type_at t) c.args.a) fit
    (small_at s t h w c.args.to c.requires.to) (shallow_at t w c.args.to c.requires.to)
    (small_in s t h w c.args.a c.requires.a) c.in_ok-v.ensures.shallow)
