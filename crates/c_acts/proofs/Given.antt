-- Values that are given.
use Rattle.std.proofs.Common.{ℕ}
use Rattle.std.specs.Prelude.{Result as Checked, Ok, Err}
use Rattle.objects.specs.declared.value.Value.{Value}
use Rattle.c_runs.specs.Worlds.{World as RunWorld}
use Rattle.c_runs.specs.Outcomes.{Result}
use Rattle.c_worlds.specs.declared.stop.Stop.{Stop}
use Rattle.c_worlds.specs.declared.stop.Stop.TheVariants.{Undefined, Memory}
use Rattle.c_worlds.specs.declared.world.World.{World}
use Rattle.c_worlds.specs.Shown.{Comes, Gets}
use Rattle.c_acts.specs.Tests.{given_by}

pub comes_given : (does : ℕ → RunWorld → Result) (old new : World) (r : Checked Value Stop) → Gets does old new r → Comes does old new (given_by r)
comes_given does old new (Ok v) h = h
comes_given does old new (Err (Undefined cause line)) h = h
comes_given does old new (Err Memory) h = tt
