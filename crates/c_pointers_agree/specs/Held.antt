-- Objects of C that a scene holds, none so large that a distance in it is no signed word.
use Rattle.std.specs.Prelude.{◌≡◌, ◌<◌, ◌^◌, ℕ, Some, List, length, slice_get}
use Rattle.objects.specs.Objects.{Object as Old}
use Rattle.c_match.specs.Held.{AreHeld}
use Rattle.c_rows_agree.specs.Templates.{Scene}

-- each living object of C has fewer than 2^31 bytes
abbrev pub AreShort : List Old → Type 0
AreShort old = (p : ℕ) (x : Old) → slice_get old p ≡ Some x → length x.bytes < 2 ^ 31

pub record HoldsShort (k : Scene) (old : List Old) : Type 0 where
  pub held : AreHeld k.map old k.objects
  pub short : AreShort old
