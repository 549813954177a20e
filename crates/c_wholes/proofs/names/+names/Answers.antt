use Rattle.std.proofs.Common.{◌≡◌, length, map, take_at, sym, ap, ◌∙◌, arith}
use Rattle.std.specs.Prelude.{slice_set}
use Rattle.std.proofs.lemmas.List.Edits.{map_over_more}
use Rattle.c_meaning.specs.CoreTrees.{Core, cores_of}
use Rattle.c_units.specs.Wholes.{whole_kind}
use Rattle.c_standings.specs.StandingLists.{meant}
use Rattle.c_wholes.specs.Kinds.{with_kinds}
use Rattle.c_wholes.proofs.KindTrees.{exprs_with_kinds}
use Rattle.c_wholes.proofs.PlacedParts.{length_of_map}
use Rattle.c_wholes.proofs.names.+names.Goals as goal

pub name_expr-returns : goal.name_expr-returns
name_expr-returns t c =
    let f = whole_kind (meant c.args.standings.now) c.args.texts.now in
    let i = c.c.inside in
    let n : length c.name_exprs.new.list ≡ c.into_vec-kids.result.len = ap length c.in_ok-name_exprs.ensures ∙ length_of_map (with_kinds f) _ ∙ c.deref_mut.ensures.len in
    let kids : c.from_vec.result ≡ map (with_kinds f) i.kids =
    c.from_vec.ensures ∙ take_at c.name_exprs.new.list _ _ n ∙ c.in_ok-name_exprs.ensures ∙ ap (map (with_kinds f)) (c.deref_mut.ensures.value ∙ c.into_vec-kids.ensures ∙ c.replace.ensures.value) in
    (λ j. Core (c.in_ok-name_kind.ensures j) i.of i.line (cores_of (kids j)))
    ∙ ap (Core (f i.what) i.of i.line) (exprs_with_kinds f i.kids) ∙ ap (with_kinds f) c.c.view_is

pub name_exprs-loop-i-preserved : goal.name_exprs-loop-i-preserved
name_exprs-loop-i-preserved t c =
    let f = whole_kind (meant c.args.standings.now) c.args.texts.now in
    let l = c.loop-i in
    ap (slice_set l.list l.i) (c.in_ok-name_expr.ensures ∙ ap (with_kinds f) (sym c.index-list-i.is)) ∙ map_over_more (with_kinds f) c.args.list.now l.list l.i c.index-list-i.result (omega arith) l.invariant c.index-list-i.is
