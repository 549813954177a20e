use Rattle.std.proofs.Common.{◌≡◌, ◌≤◌, length}
use Rattle.c_entries.proofs.Fits.{fit_from}
use Rattle.c_entries.proofs.fitting.arguments_fit.Given as goal

abbrev pub invariant-loop-place : goal.invariant-loop-place
invariant-loop-place l = record {
  same : fit_from l.program l.old l.parameters l.arguments 0 ≡ fit_from l.program l.old l.parameters l.arguments l.place;
  within : l.place ≤ length l.arguments;
}
