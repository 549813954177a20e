use Rattle.std.proofs.Common.{sym, ap, ◌∙◌}
use Rattle.std.proofs.lemmas.Result.{IfOk-weaker}
use Rattle.c_types.specs.Table.{tags, type_at}
use Rattle.c_meaning.specs.declared.core_expr.CoreKind.TheVariants as kind
use Rattle.c_meaning.specs.CoreTrees.{seen}
use Rattle.c_meaning.specs.Rows.{assigned}
use Rattle.c_values.proofs.changes.compound.Goals as goal

pub returns-in-Add-clause-means : goal.returns-in-Add-clause-means
returns-in-Add-clause-means c =
    let t = c.args.types.now in
    let k = type_at t in
    IfOk-weaker c.adding.result _ _ (λ x h line. h line kind.Change ∙ ap (λ o. assigned (tags t) line o (seen k c.args.a.now) (seen k c.args.w)) (sym c.in-Add.is)) c.adding.ensures.means

pub returns-in-Subtract-clause-means : goal.returns-in-Subtract-clause-means
returns-in-Subtract-clause-means c =
    let t = c.args.types.now in
    let k = type_at t in
    IfOk-weaker c.adding-in-Subtract.result _ _ (λ x h line. h line kind.Change ∙ ap (λ o. assigned (tags t) line o (seen k c.args.a.now) (seen k c.args.w)) (sym c.in-Subtract.is)) c.adding-in-Subtract.ensures.means
