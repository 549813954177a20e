-- Programs that start.
use Rattle.std.specs.Prelude.{◌≡◌, ℕ, List, [], Result as Checked, Ok, Err}
use Rattle.lcc_base.specs.Traces.{output_of}
use Rattle.objects.specs.Objects.{Storage}
use Rattle.c_runs.specs.Outcomes.{Undefined as Undefines, Next, Over}
use Rattle.c_runs.specs.Run.{started}
use Rattle.c_runs.specs.Worlds.{World as RunWorld}
use Rattle.c_worlds.specs.declared.program.Program.{Program}
use Rattle.c_worlds.specs.declared.stop.Stop.{Stop}
use Rattle.c_worlds.specs.declared.stop.Stop.TheVariants.{Undefined, Memory}
use Rattle.c_worlds.specs.declared.world.World.{World}
use Rattle.c_worlds.specs.Programs.{Calls, setting_of}
use Rattle.c_worlds.specs.Shown.{shown}

-- It starts in this world, with nothing seen, whatever calls do; or what its objects hold at the start is undefined.
abbrev pub Starts : Program → List ℕ → Checked World Stop → Type 0
Starts p input (Ok w) = (calls : Calls) (k : ℕ) → started (setting_of p calls) input k ≡ Next k (shown w [])
Starts p input (Err (Undefined cause line)) =
    (calls : Calls) (k : ℕ) → (w : RunWorld) × (started (setting_of p calls) input k ≡ Over (Undefines cause line) w) × (output_of w.trace ≡ [])
Starts p input (Err Memory) = Unit {0}

-- a world in another storage
abbrev pub kept_in : Storage → RunWorld → RunWorld
kept_in s w = record { storage = s; locals = w.locals; input = w.input; trace = w.trace }
