-- What the status and the report say of a command's work on an input.
use Rattle.std.specs.Prelude.{ℕ, ◌≡◌, List}
use Rattle.std.specs.declared.option.Option.{Option}
use Rattle.std.specs.Io.KnownBytes.{Appends}
use Rattle.outcomes.specs.declared.status.Status.{Status}
use Rattle.outcomes.specs.declared.outcome.End.{End}
use Rattle.outcomes.specs.declared.outcome.Refusal.{Refusal}
use Rattle.outcomes.specs.Outcome.{end_status, end_line, refusal_status, refusal_line}
use Rattle.outcomes.specs.Behaviour.{Behaviour}

-- The command's work on the input is done: the output took the text that the command writes for it, the status is that
-- of its end, and the report took the end's line.
pub record HasDone (b : Behaviour) (input : List ℕ) (taken taken_after report report_after : Option (List ℕ)) (answer : Status) : Type 0 where
  pub end : End
  pub text : List ℕ
  pub writes : b.Writes input end text
  pub written : Appends taken taken_after text
  pub answered : answer ≡ end_status end
  pub reported : Appends report report_after (end_line end)

-- a refusal of the input that stands is told: the status is its status, and the report took its line
pub record IsTold (b : Behaviour) (input : List ℕ) (report report_after : Option (List ℕ)) (answer : Status) : Type 0 where
  pub why : Refusal
  pub refuses : b.Refuses input why
  pub answered : answer ≡ refusal_status why
  pub reported : Appends report report_after (refusal_line why)
