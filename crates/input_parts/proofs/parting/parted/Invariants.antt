use Rattle.std.proofs.Common.{length, ◌-◌}
use Rattle.input_parts.proofs.Passed.{IsPassed}
use Rattle.input_parts.proofs.parting.parted.Given as goal

abbrev pub invariant-loop-line : goal.invariant-loop-line
invariant-loop-line l = IsPassed l.input l.at

abbrev pub decreases-loop-line : goal.decreases-loop-line
decreases-loop-line l = length l.input - l.at
