-- How a run begins.
use Rattle.std.specs.Prelude.{◌≡◌, ℕ, List}
use Rattle.lcc_base.specs.Traces.{Event, output_of}
use Rattle.c_runs.specs.Outcomes.{Out}
use Rattle.c_runs.specs.Run.{ended_by}
use Rattle.c_runs.specs.Worlds.{World}
use Rattle.c_worlds.specs.declared.program.Program.{Program}
use Rattle.c_worlds.specs.Shown.{shown}
use Rattle.c_eval.specs.declared.focus.Focus.{Focus}
use Rattle.c_eval.specs.declared.machine.Machine.{Machine}
use Rattle.c_eval.specs.Ends.{final_of}
use Rattle.c_eval.specs.Steps.{state_of}

-- The run ends as this does, with nothing left to do behind it.
abbrev pub Begins : Program → (ℕ → World → Out) → Machine → Machine → Focus → Type 0
Begins p does old new to =
    (t : List Event) → output_of t ≡ old.world.output
    → (t1 : List Event) × (output_of t1 ≡ new.world.output) × (state_of p new to t1 ≡ final_of (ended_by (does old.turns (shown old.world t))))
