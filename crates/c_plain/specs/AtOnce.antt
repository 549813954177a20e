-- What is found at once, and what is done at once.
use Rattle.std.specs.Prelude.{◌≡◌, ℕ, Option, Some, Result as Checked, Ok, Err}
use Rattle.c_meaning.specs.CoreTrees.{CoreOf}
use Rattle.c_runs.specs.Expressions.{eval}
use Rattle.c_worlds.specs.Programs.{Calls, setting_of, tree}
use Rattle.c_worlds.specs.Shown.{Comes}
use Rattle.c_worlds.specs.declared.program.Program.{Program}
use Rattle.c_worlds.specs.declared.stop.Stop.{Stop}
use Rattle.c_worlds.specs.declared.world.World.{World}
use Rattle.objects.specs.declared.value.Value.{Value}

-- an expression gives this value, and nothing changes
abbrev pub GivesAtOnce : Program → World → CoreOf ℕ → Value → Type 0
GivesAtOnce p w e v = (calls : Calls) → Comes (λ k x. eval (setting_of p calls) (tree p e) k x) w w (Ok (Some v))

-- what came of an expression whose value isn't used
abbrev pub dropped : Checked (Option Value) Stop → Checked (Unit {0}) Stop
dropped (Ok v) = Ok tt
dropped (Err stop) = Err stop

-- an expression comes to something of which this is left where its value isn't used
abbrev pub DoneAtOnce : Program → World → World → CoreOf ℕ → Checked (Unit {0}) Stop → Type 0
DoneAtOnce p old new e r = (given : Checked (Option Value) Stop) × ((dropped given ≡ r) × ((calls : Calls) → Comes (λ k x. eval (setting_of p calls) (tree p e) k x) old new given))
