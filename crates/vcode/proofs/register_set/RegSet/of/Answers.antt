use Rattle.std.proofs.Common.{◌∙◌}
use Rattle.std.proofs.lemmas.List.{length-set}
use Rattle.vcode.specs.RegisterSets.{none}
use Rattle.vcode.proofs.Members.{with_next}
use Rattle.vcode.proofs.register_set.RegSet.of.Goals as goal

pub loop-reg-preserved : goal.loop-reg-preserved
loop-reg-preserved c = record {
  size = length-set _ _ _ ∙ c.loop-reg.invariant.size;
  made = with_next none c.loop-reg.members c.args.regs.now c.loop-reg.reg-index c.loop-reg-test.true c.loop-reg.invariant.made;
}
