use Rattle.std.proofs.Common.{arith}
use Rattle.c_types.specs.Table.{types}
use Rattle.c_meaning.specs.Units.{function_seen}
use Rattle.c_runs.specs.Counts.{node_count}
use Rattle.lowering_limits.specs.Limits.{most}
use Rattle.lowering_limits.proofs.Counting.{first_is, one_more_is}
use Rattle.lowering_limits.proofs.limits.check_nodes.Goals as goal

pub returns-then-nodes-gt-MOST-clause-err : goal.returns-then-nodes-gt-MOST-clause-err
returns-then-nodes-gt-MOST-clause-err c = λ t.
    first_is node_count (function_seen (types t)) most c.args.functions.now c.loop-number.number c.index-functions-number.result c.loop-number-test.true c.index-functions-number.is c.in_ok-nodes.nodes c.in_ok-function.function c.in_ok-function.ensures (c.in_ok-nodes.ensures t) (c.loop-number.invariant t) c.if-nodes-gt-MOST.true

pub loop-number-preserved : goal.loop-number-preserved
loop-number-preserved c = λ t.
    one_more_is node_count (function_seen (types t)) most c.args.functions.now c.loop-number.number c.index-functions-number.result c.loop-number-test.true c.index-functions-number.is c.in_ok-nodes.nodes (c.in_ok-nodes.ensures t) (c.loop-number.invariant t) (omega (arith, c.if-nodes-gt-MOST.false))
