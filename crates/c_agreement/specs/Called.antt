-- When both calls begin alike.
-- Source: ISO/IEC 9899:1990, 6.3.2.2 (function calls), 6.7.1 (function definitions).
use Rattle.std.specs.Prelude.{◌≡◌, true, false, Option, Some, None, List, [], ◌∷◌, map as mapped, slice_get}
use Rattle.objects.specs.declared.purpose.Purpose.TheVariants.{Initialisation}
use Rattle.objects.specs.declared.value.Value.{Value}
use Rattle.forests.specs.Objects.{Object}
use Rattle.forests.specs.Words.{Word}
use Rattle.c_meaning.specs.Each.{EachIs}
use Rattle.c_meaning.specs.Types.{is_record}
use Rattle.c_meaning.specs.Units.{FunctionTree}
use Rattle.c_runs.specs.Calls.{Argument, Call, fits}
use Rattle.c_runs.specs.Locals.{IsPassedCall}
use Rattle.c_runs.specs.Worlds as c
use Rattle.c_match.specs.Held.{IsOpenTo}
use Rattle.c_match.specs.Ranges.{Map}
use Rattle.c_match.specs.Values.{IsValue}
use Rattle.c_match_worlds.specs.Matches.{Matches}
use Rattle.c_pointers_agree.specs.Held.{AreShort}
use Rattle.c_agreement.specs.Pairs.{CallPair, own_count}

-- one word for each value, in order
abbrev pub AreValues : Map → List Value → List Word → Type 0
AreValues map [] [] = Unit {0}
AreValues map (v ∷ vs) (w ∷ ws) = IsValue map v w × AreValues map vs ws
AreValues map vs ws = ⊥

-- a hidden argument before others
abbrev pub behind_hidden : Option Value → List Value → List Value
behind_hidden None vs = vs
behind_hidden (Some place) vs = place ∷ vs

-- What is passed: of a structure the pointer to its copy; before the arguments stands the pointer to the object for a structure result.
abbrev pub passed_values : Call → List Value
passed_values a = behind_hidden a.result (mapped (λ (x : Argument). x.value) a.arguments)

-- the copy of a structure stands where it may be written
abbrev pub IsOpenCopy : Map → List Object → Argument → Type 0
IsOpenCopy map objects x = is_record x.of ≡ true → IsOpenTo Initialisation map objects x.value

-- The call fits a function of the unit: arguments are of its parameters' types, after promotion where its definition is old-style. It is
-- made in a sound world with sound values, with whole copies of structures and, for a structure result alone, an object. No object of
-- C's is so large that a distance in it is no signed word. The worlds match, and the argument words stand for what is passed.
pub record IsCalled (s : CallPair) : Type 0 where
  pub tree : FunctionTree
  pub defined : slice_get s.unit.functions s.source.function ≡ Some tree
  pub fitting : fits tree s.source ≡ true
  pub passed : IsPassedCall s.unit s.source
  pub plain : is_record s.source.of ≡ false → s.source.result ≡ None
  pub short : AreShort (c.objects s.source.world)
  pub worlds : Matches s.lowered (own_count s.unit) s.map s.source.world s.target
  pub words : AreValues s.map (passed_values s.source) s.target.arguments
  pub copies : EachIs (IsOpenCopy s.map s.target.objects) s.source.arguments
  pub result : (v : Value) → s.source.result ≡ Some v → IsOpenTo Initialisation s.map s.target.objects v
