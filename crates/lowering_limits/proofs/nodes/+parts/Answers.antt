use Rattle.std.proofs.Common.{arith}
use Rattle.lowering_limits.proofs.Counting.{one_part_more}
use Rattle.lowering_limits.proofs.nodes.+parts.Goals as goal

pub of_expressions-loop-c-preserved : goal.of_expressions-loop-c-preserved
of_expressions-loop-c-preserved t c = let h = one_part_more c.args.list.now c.loop-c.c-index c.c-item.result c.loop-c-test.true c.c-item.is in omega (arith, h)
