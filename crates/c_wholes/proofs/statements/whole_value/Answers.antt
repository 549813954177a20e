use Rattle.std.proofs.Common.{length, sym, ap, subst, ◌∙◌}
use Rattle.std.proofs.lemmas.Result.{on_ok_weaker}
use Rattle.c_types.specs.Table.{type_at}
use Rattle.c_meaning.specs.CoreTrees.{IsIn, seen}
use Rattle.c_units.specs.Wholes.{whole_kind}
use Rattle.c_standings.specs.StandingLists.{meant}
use Rattle.c_wholes.specs.Placing.{IsPlaced}
use Rattle.c_wholes.proofs.KindTrees.{in_with_kinds, seen_whole}
use Rattle.c_wholes.proofs.statements.whole_value.Goals as goal

pub place_expr-requires-clause-within : goal.place_expr-requires-clause-within
place_expr-requires-clause-within c =
    let k = c.args.k.now in
    let n = length k.types.now.forms in
    subst (IsIn n) (sym c.in_ok-name_expr.ensures) (in_with_kinds (whole_kind (meant k.standings.now) k.texts.now) n c.args.e.now c.requires.within)

pub returns : goal.returns
returns c =
    let k = c.args.k.now in
    let t = k.types.now in
    on_ok_weaker c.place_expr.result
    (λ h. subst (λ w. IsPlaced t c.args.locals.now c.place_expr.new.locals w c.place_expr.new.c) (ap (seen (type_at t)) c.in_ok-name_expr.ensures ∙ seen_whole (meant k.standings.now) k.texts.now (type_at t) c.args.e.now) h)
    c.place_expr.ensures
