use Rattle.std.proofs.Common.{ℕ, drop}
use Rattle.c_wholes.specs.Numbering.{AreCountedFunctions}
use Rattle.c_wholes.proofs.numbers.count_functions.Given as goal

abbrev pub invariant-loop-f : goal.invariant-loop-f
invariant-loop-f l = (end' : ℕ) → AreCountedFunctions l.left end' (drop l.f-index l.functions) → AreCountedFunctions l.fn.most end' l.functions
