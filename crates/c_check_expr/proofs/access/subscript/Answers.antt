use Rattle.std.proofs.Common.{refl, ◌∙◌, sym}
use Rattle.std.proofs.lemmas.Result.{err_from_is_err_and}
use Rattle.c_types.specs.Table.{tags, type_at}
use Rattle.c_meaning.specs.CoreTrees.{seen}
use Rattle.c_meaning.specs.Values.{value}
use Rattle.c_check_expr.proofs.NodeTells.{seen_shallow}
use Rattle.c_check_expr.proofs.Reached.{not_of, subscript_broken, subscript_deep, subscript_fine, subscript_is, subscript_scalars, bare_state, values_scalars}
use Rattle.c_check_expr.proofs.access.subscript.Goals as goal

pub returns-then-not-is_subscript-clause-err : goal.returns-then-not-is_subscript-clause-err
returns-then-not-is_subscript-clause-err c = λ s h.
    let t = type_at c.args.types.now in
    subscript_broken s c.args.line (seen t c.args.a) (seen t c.args.i) (not_of _ _ (sym c.if-not-is_subscript.true ∙ c.is_subscript.ensures.is s h))

pub returns-in_err-v-clause-err : goal.returns-in_err-v-clause-err
returns-in_err-v-clause-err c =
    let t = c.args.types.now in
    let p = err_from_is_err_and c.from_residual.result c.from_residual.ensures.1 in
    rw (p.1, p.2)
    (λ s h.
    subscript_deep s c.args.line (seen (type_at t) c.args.a) (seen (type_at t) c.args.i) _
    (subscript_is s t h c.types_are_within_limits.ensures c.args.a c.args.i c.requires.a c.requires.i (not_of _ _ (sym c.if-not-is_subscript.false ∙ c.is_subscript.ensures.is s h)) (c.is_subscript.ensures.limits c.if-not-is_subscript.false))
    c.in_err-v.ensures.deep)

pub returns-in_err-element-clause-grows : goal.returns-in_err-element-clause-grows
returns-in_err-element-clause-grows c = c.in_ok-v.ensures.grows

pub element-requires : goal.element-requires
element-requires c =
    let t = c.args.types.now in
    let a = seen (type_at t) c.args.a in
    let i = seen (type_at t) c.args.i in
    let s = bare_state (tags t) in
    let test = subscript_scalars s a i (not_of _ _ (sym c.if-not-is_subscript.false ∙ c.is_subscript.ensures.is s refl)) in
    let both = values_scalars (type_at c.into_two_values.new.types) c.in_ok-v.v c.in_ok-v.w a i c.in_ok-v.ensures.first c.in_ok-v.ensures.second test in
    record { first = c.in_ok-v.ensures.first_within; first_scalar = both.first; second = c.in_ok-v.ensures.second_within; second_scalar = both.second; pointer = both.pointer }

pub returns-clause-ok : goal.returns-clause-ok
returns-clause-ok c = λ s h.
    let t = c.args.types.now in
    let n = c.into_two_values.new.types in
    let a = seen (type_at t) c.args.a in
    let i = seen (type_at t) c.args.i in
    let k = c.types_are_within_limits-2.ensures in
    rw (c.in_ok-element.ensures.means, c.in_ok-v.ensures.first, c.in_ok-v.ensures.second, c.in_ok-v.ensures.grows.tags_same, ← h)
    (subscript_fine s c.args.line a i
    (subscript_is s t h c.types_are_within_limits.ensures c.args.a c.args.i c.requires.a c.requires.i (not_of _ _ (sym c.if-not-is_subscript.false ∙ c.is_subscript.ensures.is s h)) (c.is_subscript.ensures.limits c.if-not-is_subscript.false))
    (seen_shallow n k c.in_ok-v.v (value a) c.in_ok-v.ensures.first_within c.in_ok-v.ensures.first)
    (seen_shallow n k c.in_ok-v.w (value i) c.in_ok-v.ensures.second_within c.in_ok-v.ensures.second))
