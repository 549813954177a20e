-- What the unit of a program has to mean: it prints and returns what the program does, it is never stuck, and no call
-- but that of `main` is ever open.
use Rattle.std.specs.Prelude.{◌≡◌, ℕ, ◌≤◌, List, [], ◌∷◌, ◌++◌, length}
use Rattle.first_form.specs.FirstProgram.{MProgram}
use Rattle.first_form.specs.Meaning.{value, output}
use Rattle.objects.specs.declared.value.Value.TheVariants.{Number}
use Rattle.lcc_base.specs.Traces.{Event, output_of, depth_of}
use Rattle.forests.specs.Words.{Plain}
use Rattle.forests.specs.Worlds.{Next, Effect, Went, Exits, Unfinished, Stuck}
use Rattle.forests.specs.Meaning.{call_of}
use Rattle.forests.specs.Units.{program_of, start_world}
use Rattle.first_forest.specs.FirstForest.{roots_of, unit_of}

-- the call of `main` with so many root steps, on this input
abbrev pub main_run : MProgram → List ℕ → ℕ → Effect
main_run p input steps = call_of (program_of (unit_of p)) 0 (record { left = steps; world = start_world (unit_of p) input })

-- the second list goes on from the first
abbrev pub IsPrefix : List ℕ → List ℕ → Type 0
IsPrefix a b = (rest : List ℕ) × (a ++ rest ≡ b)

-- a run that is over has printed the program's output and returns its result; one that goes on has printed a first part
-- of the output
abbrev pub IsRun : MProgram → Effect → Type 0
IsRun p (Went values point move) = (values ≡ Plain (Number (value p.result)) ∷ []) × (move ≡ Next) × (output_of point.world.trace ≡ output p)
IsRun p (Exits status world) = ⊥
IsRun p (Unfinished world) = IsPrefix (output_of world.trace) (output p)
IsRun p Stuck = ⊥

-- the run is over
abbrev pub IsOver : Effect → Type 0
IsOver (Went values point move) = Unit {0}
IsOver (Exits status world) = ⊥
IsOver (Unfinished world) = ⊥
IsOver Stuck = ⊥

-- what was seen of a run
abbrev pub trace_of : Effect → List Event
trace_of (Went values point move) = point.world.trace
trace_of (Exits status world) = world.trace
trace_of (Unfinished world) = world.trace
trace_of Stuck = []

-- the unit of the program means on this input what the program does
pub record IsMeant (p : MProgram) (input : List ℕ) : Type 0 where
  pub runs : (steps : ℕ) → IsRun p (main_run p input steps)
  -- it is over with as many steps as there are roots
  pub ends : (steps : ℕ) → length (roots_of p) ≤ steps → IsOver (main_run p input steps)
  -- open calls never need more room together than `main` does
  pub depth : (room : ℕ → ℕ) (steps : ℕ) → depth_of room [] (trace_of (main_run p input steps)) ≤ room 0
