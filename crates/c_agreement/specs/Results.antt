-- When what a call of forests comes to stands for what the call of C comes to.
-- Source: ISO/IEC 9899:1990, 5.1.2.2.3 and 6.6.6.4 (main that ends, return).
use Rattle.std.specs.Prelude.{◌≡◌, Option, Some, None}
use Rattle.objects.specs.declared.value.Value.{Value}
use Rattle.objects.specs.declared.value.Value.TheVariants.{Number}
use Rattle.forests.specs.Words.{Word, Plain}
use Rattle.forests.specs.Worlds.{World}
use Rattle.c_runs.specs.Worlds as c
use Rattle.c_match.specs.Left.{IsLeft}
use Rattle.c_match.specs.Ranges.{Map, Grown}
use Rattle.c_match.specs.Values.{IsValue}
use Rattle.c_match_worlds.specs.Matches.{Matches}
use Rattle.c_agreement.specs.Pairs.{CallPair, own_count}

-- The worlds match still, and the objects that had ranges when the call was made have the same ones.
pub record Later (s : CallPair) (old : c.World) (new : World) : Type 0 where
  pub map : Map
  pub grown : Grown s.map map
  pub matches : Matches s.lowered (own_count s.unit) map old new

-- the word of a value; a structure stands in the object that was passed for it, and its word may be any
abbrev pub IsGiven : Option Value → Map → Value → Word → Type 0
IsGiven None map v w = IsValue map v w
IsGiven (Some place) map v w = Unit {0}

-- where none is given, main gives 0, and another function any word
abbrev pub IsCallResult : CallPair → Map → Option Value → Word → Type 0
IsCallResult s map (Some v) w = IsGiven s.source.result map v w
IsCallResult s map None w = s.source.function ≡ s.unit.main → w ≡ Plain (Number 0)

-- The call has returned; what held nothing of C when it was made is as it was.
pub record Returned (s : CallPair) (v : Option Value) (old : c.World) (word : Word) (new : World) : Type 0 where
  pub later : Later s old new
  pub value : IsCallResult s later.map v word
  pub left : IsLeft s.map (c.objects s.source.world) s.target.objects new.objects
