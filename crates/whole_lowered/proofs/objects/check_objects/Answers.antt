use Rattle.whole_lowered.specs.Labels.{KnowsObject}
use Rattle.whole_lowered.proofs.Each.{all_done, all_more}
use Rattle.whole_lowered.proofs.objects.check_objects.Goals as goal

pub loop-object-preserved : goal.loop-object-preserved
loop-object-preserved c =
    all_more (KnowsObject c.args.names c.args.labels.now) c.args.objects.now c.loop-object.object-index c.object-item.result c.loop-object-test.true c.object-item.is c.loop-object.invariant c.in_ok-check_object.ensures

pub returns : goal.returns
returns c = all_done (KnowsObject c.args.names c.args.labels.now) c.args.objects.now c.loop-object.object-index c.loop-object-test.false c.loop-object.invariant
