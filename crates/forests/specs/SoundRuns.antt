-- Runs keep worlds sound, and give words.
use Rattle.std.specs.Prelude.{◌≡◌, ℕ, Some}
use Rattle.objects.specs.declared.value.Value.{Value}
use Rattle.forests.specs.Words.{Plain, IsWord}
use Rattle.forests.specs.Worlds.{Point}
use Rattle.forests.specs.Actions.{Calls}
use Rattle.forests.specs.Functions.{Program}
use Rattle.forests.specs.Sound.{IsSound, IsSoundEffect}

abbrev pub CallsSound : Calls → Type 0
CallsSound call = (name : ℕ) (p : Point) → IsSound p.world → IsSoundEffect (call name p)

-- the values of a program's names are words
abbrev pub IsSoundProgram : Program → Type 0
IsSoundProgram g = (name : ℕ) (v : Value) → g.global name ≡ Some v → IsWord (Plain v)
