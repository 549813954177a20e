use Rattle.std.proofs.Common.{ℕ, List, length, ◌+◌, arith}
use Rattle.c_runs.specs.Counts.{eights}
use Rattle.lowering_limits.proofs.Counting.{one_more}
use Rattle.lowering_limits.proofs.bytes.of_texts.Goals as goal

pub loop-text-preserved : goal.loop-text-preserved
loop-text-preserved c = let h = one_more (λ (t : List ℕ). eights (length t + 1)) c.args.texts.now c.loop-text.text-index c.text-item.result c.loop-text-test.true c.text-item.is in omega (arith, h)
