use Rattle.std.proofs.Common.{rules, refl, drop}
use Rattle.std.proofs.lemmas.List.{drop_all}
use Rattle.c_worlds.specs.Programs.{setting_of}
use Rattle.c_filling.proofs.FilledPlaces.{filling_goes_on, filling_is_done, filling_stops, place_plain, value_stops}
use Rattle.c_filling.proofs.filling.fill.Goals as goal

pub plain_used-requires-clause-plain : goal.plain_used-requires-clause-plain
plain_used-requires-clause-plain c =
    let plain = place_plain c.args.places.now c.loop-place.place-index c.place-item.result c.requires.plain c.loop-place-test.true c.place-item.is in
    search rules

pub loop-place-init : goal.loop-place-init
loop-place-init c = ((λ calls k t. refl), search rules)

pub returns-in_err-value-clause-goes : goal.returns-in_err-value-clause-goes
returns-in_err-value-clause-goes c = λ calls.
    value_stops (setting_of c.args.program.now calls) c.args.program.now c.args.base c.args.places.now c.loop-place.place-index c.place-item.result c.args.world.now c.loop-place.world c.plain_used.new.world c.from_residual.result c.in_err-value.field-0.0 c.loop-place-test.true c.place-item.is (c.loop-place.invariant.0 calls) c.from_residual.ensures.1 (c.in_err-value.ensures.comes calls)

pub returns-in_err-fill_place-clause-goes : goal.returns-in_err-fill_place-clause-goes
returns-in_err-fill_place-clause-goes c = λ calls.
    filling_stops (setting_of c.args.program.now calls) c.args.program.now c.args.base c.args.places.now c.loop-place.place-index c.place-item.result c.args.world.now c.loop-place.world c.plain_used.new.world c.fill_place.new.world c.in_ok-value.value c.from_residual-in_err-fill_place.result c.in_err-fill_place.field-0.0 c.loop-place-test.true c.place-item.is (c.loop-place.invariant.0 calls) (c.in_ok-value.ensures.comes calls) c.from_residual-in_err-fill_place.ensures.1 (c.in_err-fill_place.ensures.goes calls)

pub loop-place-preserved : goal.loop-place-preserved
loop-place-preserved c =
    ((λ calls. filling_goes_on (setting_of c.args.program.now calls) c.args.program.now c.args.base c.args.places.now c.loop-place.place-index c.place-item.result c.args.world.now c.loop-place.world c.plain_used.new.world c.fill_place.new.world c.in_ok-value.value c.in_ok-fill_place.field-0 c.loop-place-test.true c.place-item.is (c.loop-place.invariant.0 calls) (c.in_ok-value.ensures.comes calls) (c.in_ok-fill_place.ensures.goes calls)), search rules)

pub returns-clause-goes : goal.returns-clause-goes
returns-clause-goes c = λ calls.
    filling_is_done (setting_of c.args.program.now calls) c.args.program.now c.args.base c.args.places.now (drop c.loop-place.place-index c.args.places.now) c.args.world.now c.loop-place.world tt (drop_all c.loop-place.place-index c.args.places.now c.loop-place-test.false) (c.loop-place.invariant.0 calls)
