-- What comes of an evaluation, said of another one that comes to the same.
use Rattle.std.proofs.Common.{◌≡◌, ◌∙◌, ℕ, List}
use Rattle.std.specs.Prelude.{Option, Result as Checked, Ok, Err}
use Rattle.lcc_base.specs.Traces.{Event}
use Rattle.objects.specs.declared.value.Value.{Value}
use Rattle.c_runs.specs.Worlds.{World as RunWorld}
use Rattle.c_runs.specs.Outcomes.{Result}
use Rattle.c_worlds.specs.declared.stop.Stop.{Stop}
use Rattle.c_worlds.specs.declared.stop.Stop.TheVariants.{Undefined, Memory}
use Rattle.c_worlds.specs.declared.world.World.{World}
use Rattle.c_worlds.specs.Shown.{Comes, Gets, shown}

-- the two come to the same in this world
abbrev pub Alike : World → (ℕ → RunWorld → Result) → (ℕ → RunWorld → Result) → Type 0
Alike w does other = (k : ℕ) (t : List Event) → does k (shown w t) ≡ other k (shown w t)

pub comes_alike : (does other : ℕ → RunWorld → Result) (old new : World) (r : Checked (Option Value) Stop) → Comes other old new r → Alike old does other → Comes does old new r
comes_alike does other old new (Ok v) h alike = λ k t. alike k t ∙ h k t
comes_alike does other old new (Err (Undefined cause line)) h alike = λ k t. alike k t ∙ h k t
comes_alike does other old new (Err Memory) h alike = tt

pub gets_alike : (does other : ℕ → RunWorld → Result) (old new : World) (r : Checked Value Stop) → Gets other old new r → Alike old does other → Gets does old new r
gets_alike does other old new (Ok v) h alike = λ k t. alike k t ∙ h k t
gets_alike does other old new (Err (Undefined cause line)) h alike = λ k t. alike k t ∙ h k t
gets_alike does other old new (Err Memory) h alike = tt
