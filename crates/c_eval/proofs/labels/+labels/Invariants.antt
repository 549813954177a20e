use Rattle.std.proofs.Common.{◌≡◌, drop}
use Rattle.c_runs.specs.Statements.{any_has}
use Rattle.c_worlds.specs.declared.program.Program.{Program}
use Rattle.c_eval.specs.Stacks.{statements}
use Rattle.c_eval.proofs.labels.+labels.Given as goal

abbrev pub invariant-any_has_label-loop-s : goal.invariant-any_has_label-loop-s
invariant-any_has_label-loop-s l = (p : Program) → any_has (statements p (drop l.s-index l.statements)) l.label ≡ any_has (statements p l.statements) l.label
