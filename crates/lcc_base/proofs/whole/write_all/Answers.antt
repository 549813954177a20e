use Rattle.std.proofs.Common.{arith, ◌∙◌}
use Rattle.std.proofs.lemmas.Grind.{common_steps}
use Rattle.lcc_base.proofs.Taken.{took_more}
use Rattle.lcc_base.proofs.whole.write_all.Goals as goal

pub loop-rest-preserved : goal.loop-rest-preserved
loop-rest-preserved g c = record {
  bytes = took_more _ _ _ _ _ _ c.in_ok-n.n c.loop-rest.invariant.bytes c.in_ok-n.ensures.bytes (grind (arith, common_steps));
  faults = c.in_ok-n.ensures.cause.kept ∙ c.loop-rest.invariant.faults;
}
