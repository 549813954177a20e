use Rattle.std.proofs.Common.{◌≡◌, length, map, take_at, sym, ap, ◌∙◌}
use Rattle.c_meaning.specs.StmtTrees.{filled_of}
use Rattle.c_meaning.specs.declared.filled_place.FilledPlace.{FilledPlace}
use Rattle.c_units.specs.Wholes.{whole_kind}
use Rattle.c_standings.specs.StandingLists.{meant}
use Rattle.c_wholes.specs.Kinds.{place_with_kinds}
use Rattle.c_wholes.proofs.PlacedParts.{length_of_map}
use Rattle.c_wholes.proofs.WholeParts.{object_is_whole, places_stay_in}
use Rattle.c_wholes.proofs.static_objects.whole_object.Goals as goal

pub returns-clause-whole : goal.returns-clause-whole
returns-clause-whole c =
    let o = c.args.o in
    let g = λ (p : FilledPlace). place_with_kinds (whole_kind (meant c.args.standings.now) c.args.texts.now) (filled_of p) in
    let new = c.name_places.new.places in
    let n : length new ≡ c.into_vec-places.result.len = sym (length_of_map filled_of new) ∙ ap length c.in_ok-name_places.ensures ∙ length_of_map g _ ∙ c.deref_mut.ensures.len in
    let i : map filled_of c.from_vec.result ≡ map g o.places =
    ap (map filled_of) (c.from_vec.ensures ∙ take_at new _ _ n) ∙ c.in_ok-name_places.ensures ∙ ap (map g) (c.deref_mut.ensures.value ∙ c.into_vec-places.ensures) in
    λ t. object_is_whole t c.args.standings.now c.args.texts.now c.args.linked c.args.place o _ _ c.in_ok-name.ensures i

pub returns-clause-places : goal.returns-clause-places
returns-clause-places c =
    let o = c.args.o in
    let g = λ (p : FilledPlace). place_with_kinds (whole_kind (meant c.args.standings.now) c.args.texts.now) (filled_of p) in
    let new = c.name_places.new.places in
    let n : length new ≡ c.into_vec-places.result.len = sym (length_of_map filled_of new) ∙ ap length c.in_ok-name_places.ensures ∙ length_of_map g _ ∙ c.deref_mut.ensures.len in
    let i : map filled_of c.from_vec.result ≡ map g o.places =
    ap (map filled_of) (c.from_vec.ensures ∙ take_at new _ _ n) ∙ c.in_ok-name_places.ensures ∙ ap (map g) (c.deref_mut.ensures.value ∙ c.into_vec-places.ensures) in
    λ n h. places_stay_in c.args.standings.now c.args.texts.now n o.places c.from_vec.result i h
