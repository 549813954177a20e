use Rattle.std.proofs.Common.{◌∙◌, sym, ap}
use Rattle.std.proofs.lemmas.Result.{err_from_is_err_and}
use Rattle.c_types.specs.Table.{type_at}
use Rattle.c_meaning.specs.CoreTrees.{seen}
use Rattle.c_meaning.specs.Types.{is_pointer}
use Rattle.c_check_expr.proofs.Reached.{indirect_broken, indirect_deep, indirect_fine}
use Rattle.c_check_expr.proofs.TableLimits.{small_in, target_within}
use Rattle.c_check_expr.proofs.access.indirect.Goals as goal

pub returns-then-not-has_target-clause-err : goal.returns-then-not-has_target-clause-err
returns-then-not-has_target-clause-err c = λ s h.
    indirect_broken s c.args.line (seen (type_at c.args.types.now) c.args.a) (ap is_pointer (sym c.value_type.ensures.is) ∙ sym c.has_target.ensures.is ∙ c.if-not-has_target.true)

pub returns-in_err-v-clause-err : goal.returns-in_err-v-clause-err
returns-in_err-v-clause-err c =
    let t = c.args.types.now in
    let p = err_from_is_err_and c.from_residual.result c.from_residual.ensures.1 in
    rw (p.1, p.2)
    (λ s h.
    indirect_deep s c.args.line (seen (type_at t) c.args.a) _ (ap is_pointer (sym c.value_type.ensures.is) ∙ sym c.has_target.ensures.is ∙ c.if-not-has_target.false)
    (small_in s t h c.types_are_within_limits.ensures c.args.a c.requires)
    (target_within s t _ _ h c.value_type.ensures.is (c.has_target.ensures.limits c.if-not-has_target.false))
    c.in_err-v.ensures.deep)

pub returns-clause-ok : goal.returns-clause-ok
returns-clause-ok c = λ s h.
    let t = c.args.types.now in
    rw (c.in_ok-pointed.ensures.means, c.in_ok-v.ensures.means)
    (indirect_fine s c.args.line (seen (type_at t) c.args.a) (ap is_pointer (sym c.value_type.ensures.is) ∙ sym c.has_target.ensures.is ∙ c.if-not-has_target.false)
    (small_in s t h c.types_are_within_limits.ensures c.args.a c.requires)
    (target_within s t _ _ h c.value_type.ensures.is (c.has_target.ensures.limits c.if-not-has_target.false))
    c.in_ok-v.ensures.shallow)
