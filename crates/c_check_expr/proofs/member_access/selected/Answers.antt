use Rattle.std.proofs.Common.{sym, ap}
use Rattle.std.proofs.lemmas.Result.{IfOk-weaker}
use Rattle.c_meaning.specs.CoreTrees.{type_of}
use Rattle.c_check_expr.proofs.MemberNodes.{member_means}
use Rattle.c_values.specs.Stays.{in_later}
use Rattle.c_check_expr.proofs.member_access.selected.Goals as goal

pub returns-clause-means : goal.returns-clause-means
returns-clause-means c =
    let t = c.args.types.now in
    let same = ap type_of (sym c.a.view_is) in
    IfOk-weaker c.with_one.result _ _
    (λ x e. member_means t c.qualified.new.self c.in_ok-of.ensures.grows.extends c.args.a c.a.inside.of c.in_ok-of.of c.args.line c.qualifiers-qualifiers.result.0 c.args.place x c.requires.within same c.qualifiers-qualifiers.ensures c.in_ok-of.ensures.means e)
    c.with_one.ensures

pub returns-clause-within : goal.returns-clause-within
returns-clause-within c =
    IfOk-weaker c.with_one.result _ _
    (λ x e. rw e (c.in_ok-of.ensures.within, (in_later c.args.types.now _ c.in_ok-of.ensures.grows.extends c.args.a c.requires.within, tt)))
    c.with_one.ensures
