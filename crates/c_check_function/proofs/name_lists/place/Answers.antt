use Rattle.std.proofs.Common.{ap, refl, sym, ◌∙◌}
use Rattle.std.specs.Str.{bytes_eq}
use Rattle.c_check_function.proofs.DifferentNames.{no_place, place_behind, place_met}
use Rattle.c_check_function.proofs.name_lists.place.Goals as goal

pub loop-place-init : goal.loop-place-init
loop-place-init c = refl

pub returns-then-eq : goal.returns-then-eq
returns-then-eq c =
    sym (place_met c.args.names.now c.args.name.now c.loop-place.place c.index-names-place.result c.loop-place-test.true c.index-names-place.is (ap (bytes_eq c.args.name.now) (sym c.as_slice.ensures) ∙ sym c.eq.ensures ∙ c.if-eq.true))
    ∙ c.loop-place.invariant

pub loop-place-preserved : goal.loop-place-preserved
loop-place-preserved c =
    place_behind c.args.names.now c.args.name.now c.loop-place.place c.index-names-place.result c.loop-place-test.true c.index-names-place.is (ap (bytes_eq c.args.name.now) (sym c.as_slice.ensures) ∙ sym c.eq.ensures ∙ c.if-eq.false)
    ∙ c.loop-place.invariant

pub returns : goal.returns
returns c = sym (no_place c.args.names.now c.args.name.now c.loop-place.place c.loop-place-test.false) ∙ c.loop-place.invariant
