-- Short objects stay so, and operands of a run of C are as the laws of pointers want them.
use Rattle.std.specs.Prelude.{◌≡◌, ℕ, List, ◌++◌, take}
use Rattle.objects.specs.declared.value.Value.{Value}
use Rattle.objects.specs.Objects.{Object as Old}
use Rattle.forests.specs.Words.{Plain, IsWord}
use Rattle.c_runs.specs.Soundness.{IsSoundValue, outlines}
use Rattle.c_match.specs.Values.{StaysInside}
use Rattle.c_pointers_agree.specs.Held.{AreShort}

-- a sound value
abbrev pub OperandsAreSound : Type 0
OperandsAreSound = (made : ℕ) (v : Value) → IsSoundValue made v → StaysInside v × IsWord (Plain v)

-- where the same objects live
abbrev pub ShortIsKept : Type 0
ShortIsKept = (old new : List Old) → outlines new ≡ outlines old → AreShort old → AreShort new

-- where further ones begin, and the last ones end
abbrev pub ShortGrows : Type 0
ShortGrows = (old more : List Old) → AreShort old → AreShort more → AreShort (old ++ more)

abbrev pub ShortIsTaken : Type 0
ShortIsTaken = (old : List Old) (count : ℕ) → AreShort old → AreShort (take count old)
