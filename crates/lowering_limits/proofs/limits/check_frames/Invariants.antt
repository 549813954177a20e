use Rattle.std.proofs.Common.{take}
use Rattle.lowering_limits.specs.Limits.{AreAtMost, most}
use Rattle.lowering_limits.specs.Sizes.{frame_counts_in}
use Rattle.lowering_limits.proofs.limits.check_frames.Given as goal

abbrev pub invariant-loop-number : goal.invariant-loop-number
invariant-loop-number l = AreAtMost most (take l.number (frame_counts_in l.types l.functions))
