use Rattle.std.proofs.Common.{rules, ◌≡◌, true, sym, ap, ◌∙◌}
use Rattle.std.proofs.lemmas.Result.{IfOk-weaker}
use Rattle.c_types.specs.Table.{type_at}
use Rattle.c_meaning.specs.declared.core_expr.CoreKind.TheVariants as kind
use Rattle.c_meaning.specs.CoreTrees.{seen, type_of}
use Rattle.c_meaning.specs.Types.{is_function, pointer_to}
use Rattle.c_values.specs.PlainTypes.{plain_type}
use Rattle.c_values.proofs.Lower.{decayed_in, decayed_seen}
use Rattle.c_values.specs.Stays.{type_seen}
use Rattle.c_values.proofs.Valuing.{value_of_function}
use Rattle.c_values.proofs.forming.into_read.Goals as goal

pub returns-in_ok-of-clause-means : goal.returns-in_ok-of-clause-means
returns-in_ok-of-clause-means c =
    let t = c.args.types.now in
    let n = c.pointer_type.new.types in
    let e = c.args.c in
    let s = type_seen (type_at t) e in
    let f : is_function (type_of (seen (type_at t) e)) ≡ true = ap is_function s ∙ (let g : is_function (type_at t (type_of e)) ≡ true = search rules in g) in
    let p : c.plain.result.of ≡ type_of e = search rules in
    let m : type_at n c.in_ok-of.of ≡ pointer_to (type_of (seen (type_at t) e)) = c.in_ok-of.ensures.means ∙ ap pointer_to (plain_type t c.plain.result (type_of e) p c.plain.ensures.qualifiers ∙ sym s) in
    IfOk-weaker c.decayed.result _ _ (λ v h. decayed_seen t n kind.Address c.in_ok-of.of e v (pointer_to (type_of (seen (type_at t) e))) c.pointer_type.ensures.grows.extends c.requires.within m h ∙ sym (value_of_function (seen (type_at t) e) f)) c.decayed.ensures.ok

pub returns-in_ok-of-clause-within : goal.returns-in_ok-of-clause-within
returns-in_ok-of-clause-within c =
    IfOk-weaker c.decayed.result _ _ (λ v h. decayed_in c.args.types.now c.pointer_type.new.types kind.Address c.in_ok-of.of c.args.c v c.pointer_type.ensures.grows.extends c.requires.within c.in_ok-of.ensures.within h) c.decayed.ensures.ok
