use Rattle.std.proofs.Common.{◌≡◌, ◌++◌}
use Rattle.case_files.specs.Repetition.{repeated}
use Rattle.case_files.proofs.bytes.add_repeated.Given as goal

abbrev pub invariant-loop : goal.invariant-loop
invariant-loop l = l.into.items ≡ l.initial.into.items ++ repeated l.counter l.piece
