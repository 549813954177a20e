use Rattle.std.proofs.Common.{refl, ◌∙◌}
use Rattle.c_check_decl.specs.declared.declares.DefinedObject.{DefinedObject as ObjectValue}
use Rattle.c_standings.specs.declared.Standing.TheVariants as standing
use Rattle.c_unit_ends.proofs.Firsts.{placed_all, placed_more}
use Rattle.c_unit_ends.proofs.standing.add_objects.Goals as goal

pub loop-place-init : goal.loop-place-init
loop-place-init c = λ k. refl

pub loop-place-preserved : goal.loop-place-preserved
loop-place-preserved c = λ k.
    placed_more (λ (v : ObjectValue). v.symbol) (λ n. standing.Object n) c.loop-place.all c.add.new.all c.args.objects.now c.loop-place.place c.in_ok-number.number c.index-objects-place.result c.loop-place-test.true c.in_ok-number.ensures c.in_ok-add.ensures k
    ∙ c.loop-place.invariant k

pub returns : goal.returns
returns c = λ k. placed_all (λ (v : ObjectValue). v.symbol) (λ n. standing.Object n) c.loop-place.all c.args.objects.now c.loop-place.place c.loop-place.place k c.loop-place-test.false ∙ c.loop-place.invariant k
