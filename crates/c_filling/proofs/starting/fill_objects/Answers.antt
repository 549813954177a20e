use Rattle.std.proofs.Common.{rules, refl}
use Rattle.c_types.specs.CType.{CType}
use Rattle.c_types.specs.Table.{Table, tags}
use Rattle.c_runs.specs.Places.{size_of}
use Rattle.c_filling.proofs.FilledPlaces.{known_in}
use Rattle.c_filling.proofs.Started.{object_goes_on, object_stops}
use Rattle.c_filling.proofs.starting.fill_objects.Goals as goal

pub returns-in_err-fill-clause-goes : goal.returns-in_err-fill-clause-goes
returns-in_err-fill-clause-goes c = λ calls.
    object_stops calls c.args.program.now c.args.objects.now c.loop-place.place c.index-objects-place.result c.in_ok-base.base c.size.result c.as_slice-places.result.now c.args.world.now c.loop-place.world c.fill.new.world c.from_residual-in_err-fill.result c.in_err-fill.field-0.0 c.loop-place-test.true c.index-objects-place.is c.in_ok-base.ensures (known_in (λ (t : Table) (y : CType). size_of (tags t) y) c.args.program.now.core.now.types c.types.result.now c.index-objects-place.result.of c.index-objects-place.result.of c.size.result c.types.ensures refl c.size.ensures) c.as_slice-places.ensures (c.loop-place.invariant.0 calls) c.from_residual-in_err-fill.ensures.1 (c.in_err-fill.ensures.goes calls)

pub loop-place-preserved : goal.loop-place-preserved
loop-place-preserved c =
    ((λ calls. object_goes_on calls c.args.program.now c.args.objects.now c.loop-place.place c.index-objects-place.result c.in_ok-base.base c.size.result c.as_slice-places.result.now c.args.world.now c.loop-place.world c.fill.new.world c.in_ok-fill.field-0 c.loop-place-test.true c.index-objects-place.is c.in_ok-base.ensures (known_in (λ (t : Table) (y : CType). size_of (tags t) y) c.args.program.now.core.now.types c.types.result.now c.index-objects-place.result.of c.index-objects-place.result.of c.size.result c.types.ensures refl c.size.ensures) c.as_slice-places.ensures (c.loop-place.invariant.0 calls) (c.in_ok-fill.ensures.goes calls)), search rules)
