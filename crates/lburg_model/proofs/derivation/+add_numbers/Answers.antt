use Rattle.lburg_model.proofs.Numbers.{one_more, all_parts}
use Rattle.lburg_model.proofs.derivation.+add_numbers.Goals as goal

pub loop-part-preserved : goal.loop-part-preserved
loop-part-preserved t c =
    one_more c.as_slice-part-items.result.now c.loop-part.part-index c.part-item.result c.push.new.self c.loop-part.into c.add_numbers.new.into c.loop-part-test.true c.part-item.is c.loop-part.invariant c.in_ok-add_numbers.ensures

pub returns : goal.returns
returns t c =
    all_parts c.args.d.now c.as_slice-part-items.result.now c.loop-part.part-index c.args.into.now c.push.new.self c.loop-part.into c.as_slice-part-items.ensures c.loop-part-test.false c.in_ok-push.ensures.ok c.loop-part.invariant
