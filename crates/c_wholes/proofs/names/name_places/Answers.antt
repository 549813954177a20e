use Rattle.std.proofs.Common.{map, ap, sym, ◌∙◌, arith}
use Rattle.std.specs.Prelude.{slice_set}
use Rattle.std.proofs.lemmas.List.Edits.{map_over_more}
use Rattle.c_meaning.specs.StmtTrees.{filled_of}
use Rattle.c_meaning.specs.declared.filled_place.FilledPlace.{FilledPlace}
use Rattle.c_units.specs.Wholes.{whole_kind}
use Rattle.c_standings.specs.StandingLists.{meant}
use Rattle.c_wholes.specs.Kinds.{with_kinds}
use Rattle.c_wholes.proofs.KindTrees.{filled_with_kinds, all_mapped}
use Rattle.c_wholes.proofs.names.name_places.Goals as goal

pub loop-i-preserved : goal.loop-i-preserved
loop-i-preserved c =
    let f = whole_kind (meant c.args.standings.now) c.args.texts.now in
    let l = c.loop-i in
    ap (slice_set l.places l.i) (λ j. record { at = (sym c.index-places-i.is j).at; value = (c.in_ok-name_expr.ensures ∙ ap (λ (p : FilledPlace). with_kinds f p.value) (sym c.index-places-i.is)) j })
    ∙ map_over_more (λ (p : FilledPlace). record p { value = with_kinds f p.value }) c.args.places.now l.places l.i c.index-places-i.result (omega arith) l.invariant c.index-places-i.is

pub returns : goal.returns
returns c =
    let f = whole_kind (meant c.args.standings.now) c.args.texts.now in
    let l = c.loop-i in
    ap (map filled_of) (all_mapped (λ (p : FilledPlace). record p { value = with_kinds f p.value }) c.args.places.now l.places l.i (omega arith) l.invariant)
    ∙ filled_with_kinds f c.args.places.now
