-- What `evaluate` answers, as the end of a run.
use Rattle.std.specs.Prelude.{◌≡◌, ℕ}
use Rattle.objects.specs.Arithmetic.{signed_of}
use Rattle.c_runs.specs.Outcomes.{Undefined as RunUndefined, OutOfTurns as RunOutOfTurns, Exit as RunExit}
use Rattle.c_eval.specs.declared.evaluating.Outcome.{Outcome}
use Rattle.c_eval.specs.declared.evaluating.Outcome.TheVariants.{Done, Undefined, OutOfTurns}
use Rattle.c_eval.specs.Ends.{Final, final}

-- a status is the signed number of a word
abbrev pub IsOutcome : Outcome → Final → Type 0
IsOutcome (Done output status) e = (word : ℕ) × (status ≡ signed_of word) × (e ≡ final (RunExit word) output)
IsOutcome (Undefined output cause line) e = e ≡ final (RunUndefined cause line) output
IsOutcome (OutOfTurns output) e = e ≡ final RunOutOfTurns output
