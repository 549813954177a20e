use Rattle.std.proofs.Common.{◌≡◌, sym, ap, ◌∙◌}
use Rattle.std.proofs.lemmas.Result.{IfOk-weaker}
use Rattle.c_types.specs.CType.{CType, Int, basic, unqualified}
use Rattle.c_types.specs.Table.{tags, type_at}
use Rattle.c_meaning.specs.CoreTrees.{seen, type_of}
use Rattle.c_meaning.specs.Rows.{added, number}
use Rattle.c_values.specs.Giving.{giving}
use Rattle.c_values.proofs.Changing.{change_made}
use Rattle.c_values.specs.Stays.{type_seen}
use Rattle.c_values.proofs.changes.stepped.Goals as goal
use Rattle.c_values.proofs.changes.stepped.Goals.{in-Before, in-After}

pub returns-clause-means : goal.returns-clause-means
returns-clause-means c =
    let t = c.args.types.now in
    let k = type_at t in
    let a = seen k c.args.a in
    let what : c.match-given.what ≡ giving c.args.given c.in_ok-by.field-0.by = elim c.match-given.branch [
      | in-Before w ↦ w.what-is ∙ ap (λ g. giving g c.in_ok-by.field-0.by) (sym w.in-Before.is)
      | in-After w ↦ w.what-is ∙ ap (λ g. giving g c.in_ok-by.field-0.by) (sym w.in-After.is)
    ] in
    let of : k c.unqualified_type-of.result ≡ unqualified (type_of a) =
    c.unqualified_type-of.ensures.means ∙ ap unqualified (ap (λ z. k (type_of z)) c.a.view_is ∙ sym (type_seen k c.args.a)) in
    let one : seen k c.leaf-one.result ≡ number (basic Int) c.args.line 1 =
    ap (seen k) c.leaf-one.ensures ∙ ap (λ (z : CType). number z c.args.line 1) (ap k c.basic_type.ensures.is ∙ c.basic_type.ensures.means) in
    let same = c.in_ok-by.ensures.means c.args.line (giving c.args.given) in
    IfOk-weaker c.with_two.result _ _
    (λ x h.
    change_made k (giving c.args.given) c.in_ok-by.field-0.by c.match-given.what c.unqualified_type-of.result c.args.line c.args.a c.in_ok-by.field-0.operand x what of h
    ∙ same ∙ ap (added (tags t) c.args.line (giving c.args.given) c.args.back a) one)
    c.with_two.ensures
