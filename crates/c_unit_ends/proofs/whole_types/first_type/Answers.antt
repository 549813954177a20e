use Rattle.std.proofs.Common.{length, refl, sym, ◌∙◌}
use Rattle.std.proofs.lemmas.Bool.{ltb-false, ltb-true}
use Rattle.std.proofs.lemmas.Option.{slice_get_past, slice_get_read}
use Rattle.c_standings.specs.StandingLists.{of_symbol}
use Rattle.c_unit_ends.proofs.FirstTypes.{no_object, type_of_none, type_of_object}
use Rattle.c_unit_ends.proofs.whole_types.first_type.Goals as goal

pub returns-in-Some-get : goal.returns-in-Some-get
returns-in-Some-get c =
    let os = c.args.objects.now in
    let found = c.in-Some-get.ensures.lookup in
    type_of_object os c.args.id c.args.of (of_symbol c.args.places.now c.args.id) (c.requires c.args.id) c.in-Some.place (sym c.in-Some.is ∙ c.object_place.ensures) c.in-Some-get.object.now
    (slice_get_read os (length os) c.in-Some.place c.in-Some-get.object.now refl (ltb-true c.in-Some.place (length os) (sym found.0)) found.1)

pub returns-in-None-get : goal.returns-in-None-get
returns-in-None-get c =
    let os = c.args.objects.now in
    no_object os c.args.id c.args.of (of_symbol c.args.places.now c.args.id) (c.requires c.args.id) c.in-Some.place (sym c.in-Some.is ∙ c.object_place.ensures)
    (slice_get_past os c.in-Some.place (ltb-false c.in-Some.place (length os) (sym c.in-None-get.ensures.lookup.0)))

pub returns-in-None : goal.returns-in-None
returns-in-None c = type_of_none c.args.objects.now c.args.id c.args.of (of_symbol c.args.places.now c.args.id) (c.requires c.args.id) (sym c.in-None.is ∙ c.object_place.ensures)
