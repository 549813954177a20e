use Rattle.std.proofs.Common.{◌≡◌, false, sym, ap, subst, ◌∙◌}
use Rattle.c_types.specs.Table.{tags, type_at}
use Rattle.c_meaning.specs.Constraints.{some_deep, value_types}
use Rattle.c_meaning.specs.CoreTrees.{all_seen, cores_of, seen}
use Rattle.c_meaning.specs.Nodes as node
use Rattle.c_meaning.specs.Rows.{call}
use Rattle.c_meaning.specs.Typing.{Fine, at_expr}
use Rattle.c_meaning.specs.Values.{CoreTree, value, value_type, values}
use Rattle.c_check_expr.specs.AtNode.{IsRefused}
use Rattle.c_check_expr.specs.Calling.{call_broken}
use Rattle.c_check_expr.specs.SomeDeep.{AreTooDeep}
use Rattle.c_check_expr.proofs.CallNodes.{call_deep, call_fine, call_many, call_refused, call_within, count_formed, deep_arguments, deep_function, few_counted, many_counted, told_some_deep}
use Rattle.c_check_expr.proofs.ChangeNodes.{told_deep}
use Rattle.c_check_expr.proofs.NodeTells.{passed_on}
use Rattle.c_values.specs.Stays.{all_in_later, all_stay, grows_on, in_later, seen_stays}
use Rattle.c_check_expr.proofs.calls.call.Goals as goal

pub returns-in-Some-clause-err : goal.returns-in-Some-clause-err
returns-in-Some-clause-err c =
    let t = c.args.types.now in
    let f = seen (type_at t) c.args.f in
    let cs = all_seen (type_at t) (cores_of c.args.arguments) in
    let b = sym (c.in-Some.ensures.is ∙ ap (λ l. call_broken (tags t) f (all_seen (type_at t) (cores_of l))) c.as_slice.ensures) in
    λ s h. call_refused s (tags t) c.args.line c.in-Some.number f cs h b

pub returns-in_err-f-clause-err : goal.returns-in_err-f-clause-err
returns-in_err-f-clause-err c =
    let t = c.args.types.now in
    let f = seen (type_at t) c.args.f in
    let cs = all_seen (type_at t) (cores_of c.args.arguments) in
    let w = call_within t c.args.f c.args.arguments c.as_slice.result.now c.types_are_within_limits.ensures c.requires.f c.requires.arguments c.as_slice.ensures c.in_default.ensures.is c.in_default.ensures.within in
    let n = node.Call f cs in
    let e = c.in_err-f.field-0.0 in
    passed_on c.from_residual.result e (IsRefused t c.args.line n) c.from_residual.ensures.1
    (λ s h. told_deep e c.args.line (value_type f) (at_expr s c.args.line n) c.in_err-f.ensures.deep (λ d. call_deep s (tags t) c.args.line f cs h w (deep_function f cs d)))

pub into_values-requires : goal.into_values-requires
into_values-requires c =
    all_in_later c.args.types.now c.into_value.new.types c.in_ok-f.ensures.grows.extends (cores_of c.args.arguments) c.requires.arguments

pub returns-in_err-arguments-clause-err : goal.returns-in_err-arguments-clause-err
returns-in_err-arguments-clause-err c =
    let t = c.args.types.now in
    let f = seen (type_at t) c.args.f in
    let cs = all_seen (type_at t) (cores_of c.args.arguments) in
    let w = call_within t c.args.f c.args.arguments c.as_slice.result.now c.types_are_within_limits.ensures c.requires.f c.requires.arguments c.as_slice.ensures c.in_default.ensures.is c.in_default.ensures.within in
    let n = node.Call f cs in
    let t1 = c.into_value.new.types in
    let same = all_stay t t1 c.in_ok-f.ensures.grows.extends (cores_of c.args.arguments) c.requires.arguments in
    let e = c.in_err-arguments.field-0.0 in
    let d : AreTooDeep e c.args.line (value_types cs) = subst (λ z. AreTooDeep e c.args.line (value_types z)) same c.in_err-arguments.ensures.deep in
    passed_on c.from_residual-in_err-arguments.result e (IsRefused t c.args.line n) c.from_residual-in_err-arguments.ensures.1
    (λ s h. told_some_deep e c.args.line (value_types cs) (at_expr s c.args.line n) d (λ y. call_deep s (tags t) c.args.line f cs h w (deep_arguments f cs c.in_ok-f.ensures.shallow y)))

pub returns-in_err-arguments-clause-grows : goal.returns-in_err-arguments-clause-grows
returns-in_err-arguments-clause-grows c =
    grows_on _ _ _ c.in_ok-f.ensures.grows c.in_err-arguments.ensures.grows

pub returns-then-len-gt127-clause-err : goal.returns-then-len-gt127-clause-err
returns-then-len-gt127-clause-err c =
    let t = c.args.types.now in
    let f = seen (type_at t) c.args.f in
    let cs = all_seen (type_at t) (cores_of c.args.arguments) in
    let w = call_within t c.args.f c.args.arguments c.as_slice.result.now c.types_are_within_limits.ensures c.requires.f c.requires.arguments c.as_slice.ensures c.in_default.ensures.is c.in_default.ensures.within in
    let t1 = c.into_value.new.types in
    let u = c.into_values.new.types in
    let x = c.in_ok-f.ensures.grows.extends in
    let d : some_deep (value_types cs) ≡ false = ap (λ z. some_deep (value_types z)) (sym (all_stay t t1 x (cores_of c.args.arguments) c.requires.arguments)) ∙ c.in_ok-arguments.ensures.shallow in
    let m = count_formed t t1 u c.args.arguments c.in_ok-arguments.arguments x c.requires.arguments c.in_ok-arguments.ensures.means in
    let p = many_counted _ c.len.result (m ∙ sym c.len.ensures) c.if-len-gt127.true in
    λ s h. call_many s (tags t) c.args.line f cs h c.in_ok-f.ensures.shallow d p w

pub returns-then-len-gt127-clause-grows : goal.returns-then-len-gt127-clause-grows
returns-then-len-gt127-clause-grows c =
    grows_on _ _ _ c.in_ok-f.ensures.grows c.in_ok-arguments.ensures.grows

pub called_with-requires-clause-f : goal.called_with-requires-clause-f
called_with-requires-clause-f c =
    in_later c.into_value.new.types c.into_values.new.types c.in_ok-arguments.ensures.grows.extends c.in_ok-f.f c.in_ok-f.ensures.within

pub returns-in_err-core-clause-grows : goal.returns-in_err-core-clause-grows
returns-in_err-core-clause-grows c =
    grows_on _ _ _ c.in_ok-f.ensures.grows c.in_ok-arguments.ensures.grows

pub returns-clause-ok : goal.returns-clause-ok
returns-clause-ok c =
    let t = c.args.types.now in
    let f = seen (type_at t) c.args.f in
    let cs = all_seen (type_at t) (cores_of c.args.arguments) in
    let w = call_within t c.args.f c.args.arguments c.as_slice.result.now c.types_are_within_limits.ensures c.requires.f c.requires.arguments c.as_slice.ensures c.in_default.ensures.is c.in_default.ensures.within in
    let t1 = c.into_value.new.types in
    let u = c.into_values.new.types in
    let x = c.in_ok-f.ensures.grows.extends in
    let d : some_deep (value_types cs) ≡ false = ap (λ z. some_deep (value_types z)) (sym (all_stay t t1 x (cores_of c.args.arguments) c.requires.arguments)) ∙ c.in_ok-arguments.ensures.shallow in
    let m = count_formed t t1 u c.args.arguments c.in_ok-arguments.arguments x c.requires.arguments c.in_ok-arguments.ensures.means in
    let p = few_counted _ c.len.result (m ∙ sym c.len.ensures) c.if-len-gt127.false in
    let function : seen (type_at u) c.in_ok-f.f ≡ value f = seen_stays t1 u c.in_ok-arguments.ensures.grows.extends c.in_ok-f.f c.in_ok-f.ensures.within ∙ c.in_ok-f.ensures.means in
    let vs = all_seen (type_at u) (cores_of c.in_ok-arguments.arguments) in
    let arguments : vs ≡ values cs = c.in_ok-arguments.ensures.means ∙ ap values (all_stay t t1 x (cores_of c.args.arguments) c.requires.arguments) in
    let same : seen (type_at u) c.in_ok-core.core ≡ call c.args.line (value f) (values cs) =
    c.in_ok-core.ensures.means ∙ ap (λ z. call c.args.line z vs) function ∙ ap (call c.args.line (value f)) arguments in
    λ s h. call_fine s (tags t) c.args.line f cs h c.in_ok-f.ensures.shallow d p w ∙ ap (λ (z : CoreTree). Fine s z) (sym same)

pub returns-clause-grows : goal.returns-clause-grows
returns-clause-grows c =
    grows_on _ _ _ c.in_ok-f.ensures.grows c.in_ok-arguments.ensures.grows
