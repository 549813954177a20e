use Rattle.std.proofs.Common.{rules, ◌≡◌, true, sym, ◌∙◌}
use Rattle.std.proofs.lemmas.Result.{IfOk-weaker}
use Rattle.c_types.specs.CType.{Array}
use Rattle.c_types.specs.Table.{type_at}
use Rattle.c_meaning.specs.declared.core_expr.CoreKind.TheVariants as kind
use Rattle.c_meaning.specs.CoreTrees.{seen, type_of}
use Rattle.c_meaning.specs.Types.{pointer_to}
use Rattle.c_meaning.specs.Values.{is_lvalue}
use Rattle.c_values.specs.Valued.{qualified_in}
use Rattle.c_values.proofs.Lower.{decayed_in, decayed_seen}
use Rattle.c_values.specs.Stays.{type_seen}
use Rattle.c_values.proofs.Valuing.{value_of_array}
use Rattle.c_values.proofs.forming.into_value.Goals as goal

pub returns-in_ok-of-in-Some-clause-means : goal.returns-in_ok-of-in-Some-clause-means
returns-in_ok-of-in-Some-clause-means c =
    let t = c.args.types.now in
    let n = c.pointer_type.new.types in
    let e = c.args.c in
    let a = c.in-Some.ensures.array in
    let w : type_of (seen (type_at t) e) ≡ Array (qualified_in t c.in-Some.element) a.0 = type_seen (type_at t) e ∙ (let g : type_at t (type_of e) ≡ Array (qualified_in t c.in-Some.element) a.0 = search (rules, a.1) in g) in
    let l : is_lvalue (seen (type_at t) e) ≡ true = sym (c.is_lvalue.ensures t) ∙ c.if-is_lvalue.true in
    IfOk-weaker c.decayed.result _ _ (λ v h. decayed_seen t n kind.First c.in_ok-of-in-Some.of e v (pointer_to (qualified_in t c.in-Some.element)) c.pointer_type.ensures.grows.extends c.requires c.in_ok-of-in-Some.ensures.means h ∙ sym (value_of_array (seen (type_at t) e) (qualified_in t c.in-Some.element) a.0 w l)) c.decayed.ensures.ok

pub returns-in_ok-of-in-Some-clause-within : goal.returns-in_ok-of-in-Some-clause-within
returns-in_ok-of-in-Some-clause-within c =
    IfOk-weaker c.decayed.result _ _ (λ v h. decayed_in c.args.types.now c.pointer_type.new.types kind.First c.in_ok-of-in-Some.of c.args.c v c.pointer_type.ensures.grows.extends c.requires c.in_ok-of-in-Some.ensures.within h) c.decayed.ensures.ok
