use Rattle.std.proofs.Common.{◌+◌, List, ◌++◌, ◌∷◌, [], drop, get_or, length, map, take, sym, ap, subst, ◌∙◌, arith}
use Rattle.c_types.specs.Table.{type_at}
use Rattle.c_meaning.specs.CoreTrees.{seen}
use Rattle.c_meaning.specs.StmtTrees.{ArePlacesIn, filled_of, place_seen}
use Rattle.c_meaning.specs.declared.filled_place.FilledPlace.{FilledPlace}
use Rattle.c_units.specs.Wholes.{whole, whole_places}
use Rattle.c_standings.specs.StandingLists.{meant}
use Rattle.c_wholes.specs.Placing.{ArePlacesPlaced}
use Rattle.c_wholes.proofs.Loops.{next}
use Rattle.c_wholes.proofs.PlacedLists.{one_more_filled, whole_behind}
use Rattle.c_wholes.proofs.statements.each_place.Goals as goal

pub loop-i-preserved : goal.loop-i-preserved
loop-i-preserved c =
    let k = c.args.k.now in
    let t = k.types.now in
    let f = type_at t in
    let made = whole_places (meant k.standings.now) k.texts.now in
    let l = c.loop-i in
    let v = l.invariant in
    let xs = c.args.places.now in
    let is = c.index-places-i.is in
    let x : FilledPlace = get_or l.places l.i c.index-places-i.result in
    let d = c.whole_value.new.e in
    let y : FilledPlace = record x { value = d } in
    let a = c.args.locals.now in
    let b = c.whole_value.new.locals in
    let n = next xs l.places l.i c.index-places-i.result y (omega arith) v.lengths v.left is in
    let w = whole (meant k.standings.now) k.texts.now (seen f x.value) in
    let i = subst (λ (zs : List FilledPlace). ArePlacesIn (length t.forms) (map filled_of zs)) (v.left ∙ n.behind ∙ ap (λ (z : FilledPlace). z ∷ drop (l.i + 1) xs) is) v.within in
    let more = one_more_filled t a l.locals b (made (map (λ q. place_seen f (filled_of q)) (take l.i xs))) w (take l.i l.places) x d v.placed c.in_ok-whole_value.ensures i.0.0 in
    let all = subst (λ ps. ArePlacesPlaced t a b ps (take l.i l.places ++ y ∷ [])) (sym (whole_behind (meant k.standings.now) k.texts.now f (take l.i xs) x)) more in
    let old = n.old ∙ ap (λ (z : FilledPlace). take l.i xs ++ z ∷ []) is in
    let whole = subst (λ zs. ArePlacesPlaced t a b (made (map (λ q. place_seen f (filled_of q)) zs)) (take l.i l.places ++ y ∷ [])) (sym old) all in
    record {
      placed = subst (λ zs. ArePlacesPlaced t a b (made (map (λ q. place_seen f (filled_of q)) (take (l.i + 1) xs))) zs) (sym n.new) whole;
      left = n.left;
      lengths = n.lengths;
      within = subst (λ (zs : List FilledPlace). ArePlacesIn (length t.forms) (map filled_of zs)) (sym n.left) i.1;
    }
