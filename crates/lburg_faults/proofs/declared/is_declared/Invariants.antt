use Rattle.std.proofs.Common.{length}
use Rattle.lburg_faults.proofs.DeclareText.{IsLeft}
use Rattle.lburg_faults.proofs.declared.is_declared.Given as goal

abbrev pub invariant-loop-line : goal.invariant-loop-line
invariant-loop-line l = IsLeft l.name l.text l.section l.rest

abbrev pub decreases-loop-line : goal.decreases-loop-line
decreases-loop-line l = length l.rest
