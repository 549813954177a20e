use Rattle.std.proofs.Common.{◌≡◌, drop}
use Rattle.c_runs.specs.Statements.{chosen}
use Rattle.c_eval.proofs.statements.chosen.Given as goal

abbrev pub invariant-loop-case : goal.invariant-loop-case
invariant-loop-case l = chosen (drop l.case-index l.cases) l.default l.n ≡ chosen l.cases l.default l.n
