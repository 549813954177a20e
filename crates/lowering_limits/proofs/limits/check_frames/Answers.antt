use Rattle.std.proofs.Common.{arith}
use Rattle.c_types.specs.Table.{tags, types}
use Rattle.c_meaning.specs.Units.{function_seen}
use Rattle.c_runs.specs.Counts.{frame_count}
use Rattle.lowering_limits.specs.Limits.{most}
use Rattle.lowering_limits.proofs.Counting.{first_is, one_more_is}
use Rattle.lowering_limits.proofs.limits.check_frames.Goals as goal

pub returns-then-bytes-gt-MOST-clause-err : goal.returns-then-bytes-gt-MOST-clause-err
returns-then-bytes-gt-MOST-clause-err c =
    let t = c.args.types.now in
    first_is (frame_count (tags t)) (function_seen (types t)) most c.args.functions.now c.loop-number.number c.index-functions-number.result c.loop-number-test.true c.index-functions-number.is c.in_ok-bytes.bytes c.in_ok-function.function c.in_ok-function.ensures c.in_ok-bytes.ensures c.loop-number.invariant c.if-bytes-gt-MOST.true

pub loop-number-preserved : goal.loop-number-preserved
loop-number-preserved c =
    let t = c.args.types.now in
    one_more_is (frame_count (tags t)) (function_seen (types t)) most c.args.functions.now c.loop-number.number c.index-functions-number.result c.loop-number-test.true c.index-functions-number.is c.in_ok-bytes.bytes c.in_ok-bytes.ensures c.loop-number.invariant (omega (arith, c.if-bytes-gt-MOST.false))
