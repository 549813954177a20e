-- What is under way behind an evaluation: its value, or none, or the end of the run.
use Rattle.std.specs.Prelude.{◌≡◌, ℕ, Bool, Option, Some, None, Result as Checked, Ok, Err}
use Rattle.objects.specs.declared.value.Value.{Value}
use Rattle.c_runs.specs.Outcomes.{Result, GivesNone, Ends, truth}
use Rattle.c_runs.specs.Worlds.{World}
use Rattle.c_worlds.specs.declared.stop.Stop.{Stop}
use Rattle.c_worlds.specs.declared.stop.Stop.TheVariants as stop
use Rattle.c_eval.specs.declared.focus.Focus.{Focus}
use Rattle.c_eval.specs.declared.focus.Focus.TheVariants as at
use Rattle.c_eval.specs.declared.how.How.TheVariants.{Undefined}
use Rattle.c_eval.specs.Ends.{how_of}

abbrev pub IsStopped : Stop → Focus → Type 0
IsStopped (stop.Undefined cause line) focus = focus ≡ at.Over (Undefined cause line)
IsStopped stop.Memory focus = ⊥

abbrev pub IsCame : Checked (Option Value) Stop → Focus → Type 0
IsCame (Ok (Some v)) focus = focus ≡ at.Value v
IsCame (Ok None) focus = focus ≡ at.NoValue 0
IsCame (Err stop) focus = IsStopped stop focus

-- of a test
abbrev pub IsTold : Checked Bool Stop → Focus → Type 0
IsTold (Ok answer) focus = focus ≡ at.Value (truth answer)
IsTold (Err stop) focus = IsStopped stop focus

-- an expression of whose first part no value came: it has none either, or the run ends
abbrev pub IsUnused : Result → ℕ → World → Focus → Type 0
IsUnused r k w (at.NoValue line) = r ≡ GivesNone line k w
IsUnused r k w (at.Over how) = r ≡ Ends (how_of how) w
IsUnused r k w focus = ⊥
