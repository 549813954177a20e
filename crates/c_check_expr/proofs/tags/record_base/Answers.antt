use Rattle.std.proofs.Common.{sym, ◌∙◌}
use Rattle.c_check_expr.proofs.RecordNodes.{record_there}
use Rattle.c_check_expr.proofs.tags.record_base.Goals as goal

pub returns-then-is_of_kind-clause-some : goal.returns-then-is_of_kind-clause-some
returns-then-is_of_kind-clause-some c =
    let u = c.unqualified-base.ensures in
    let f = c.form-form.ensures in
    record_there c.args.types.now c.args.kind c.args.id c.unqualified-base.result.0 c.unqualified-base.result.1.0 c.form-form.result.now u.within c.requires u.means u.form f.form f.means (sym c.is_of_kind.ensures ∙ c.if-is_of_kind.true)
