-- Structures that are copied into objects of calls.
use Rattle.std.specs.Prelude.{◌≡◌, ℕ, List, Result as Checked, Ok, Err}
use Rattle.lcc_base.specs.declared.cause.Cause.{Cause}
use Rattle.lcc_base.specs.Traces.{Event}
use Rattle.objects.specs.declared.purpose.Purpose.TheVariants.{Initialisation}
use Rattle.objects.specs.declared.value.Value.{Value}
use Rattle.objects.specs.Objects.{Object}
use Rattle.c_runs.specs.Places.{assigned}
use Rattle.c_runs.specs.Worlds.{with_objects}
use Rattle.c_worlds.specs.declared.program.Program.{Program}
use Rattle.c_worlds.specs.declared.stop.Stop.{Stop}
use Rattle.c_worlds.specs.declared.stop.Stop.TheVariants.{Undefined, Memory}
use Rattle.c_worlds.specs.declared.world.World.{World}
use Rattle.c_worlds.specs.Programs.{known, unit_of}
use Rattle.c_worlds.specs.Shown.{shown}

-- the objects with a structure of a type copied
abbrev pub with_copy : Program → ℕ → List Object → Value → Value → Checked (List Object) Cause
with_copy p of os from to = assigned Initialisation (unit_of p).tags (known p of) os from to

-- these objects are those of the new world, or the cause has this line and nothing has changed
abbrev pub Becomes : Checked (List Object) Cause → ℕ → World → World → Checked (Unit {0}) Stop → Type 0
Becomes wanted line old new (Ok _) =
    (os : List Object) × ((wanted ≡ Ok os) × ((t : List Event) → shown new t ≡ with_objects (shown old t) os))
Becomes wanted line old new (Err (Undefined cause l)) =
    (wanted ≡ Err cause) × ((l ≡ line) × ((t : List Event) → shown new t ≡ shown old t))
Becomes wanted line old new (Err Memory) = Unit {0}
