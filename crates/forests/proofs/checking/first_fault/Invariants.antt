use Rattle.forests.proofs.FirstFaults.{IsKept}
use Rattle.forests.proofs.checking.first_fault.Given as goal

abbrev pub invariant-loop-root : goal.invariant-loop-root
invariant-loop-root l = IsKept l.forest l.root l.is_taken l.fault
