use Rattle.std.proofs.Common.{arith}
use Rattle.lowering_limits.specs.Nodes.{nodes_of}
use Rattle.lowering_limits.proofs.Counting.{one_more}
use Rattle.lowering_limits.proofs.nodes.+nodes.Goals as goal

pub of_statements-loop-s-preserved : goal.of_statements-loop-s-preserved
of_statements-loop-s-preserved t c = let h = one_more nodes_of c.args.list.now c.loop-s.s-index c.s-item.result c.loop-s-test.true c.s-item.is in omega (arith, h)
