use Rattle.std.proofs.Common.{drop}
use Rattle.c_wholes.specs.Numbering.{ExprsHaveWords}
use Rattle.c_wholes.proofs.numbers.+reading.Given as goal

abbrev pub invariant-read_exprs-loop-c : goal.invariant-read_exprs-loop-c
invariant-read_exprs-loop-c l = ExprsHaveWords (drop l.c-index l.list) → ExprsHaveWords l.list
