-- What a run keeps of words, bytes and worlds: words have 32 bits, bytes have 8, what isn't known is 0, and the input is
-- one of bytes.
use Rattle.std.specs.Prelude.{◌≡◌, ◌<◌, ℕ, bit_and, Option, Some, None, List, [], ◌∷◌}
use Rattle.objects.specs.declared.byte.Byte.{Byte}
use Rattle.objects.specs.declared.byte.Byte.TheVariants.{Bits, Part}
use Rattle.objects.specs.declared.value.Value.{Value}
use Rattle.forests.specs.Words.{Word, Plain, IsWord}
use Rattle.forests.specs.Objects.{Object}
use Rattle.forests.specs.Worlds.{World, Move, Next, To, End, Effect, Went, Exits, Unfinished, Stuck, Outcome, Finished, Exited, Going, Failed}
use Rattle.forests.specs.Addresses.{Environment}

abbrev pub IsSoundByte : Byte Word → Type 0
IsSoundByte (Bits known value) = (known < 256) × (bit_and value known ≡ value)
IsSoundByte (Part w place) = IsWord w

abbrev pub AreSoundBytes : List (Byte Word) → Type 0
AreSoundBytes [] = Unit {0}
AreSoundBytes (b ∷ bs) = IsSoundByte b × AreSoundBytes bs

abbrev pub AreSoundObjects : List Object → Type 0
AreSoundObjects [] = Unit {0}
AreSoundObjects (x ∷ xs) = AreSoundBytes x.bytes × AreSoundObjects xs

abbrev pub AreWords : List Word → Type 0
AreWords [] = Unit {0}
AreWords (w ∷ ws) = IsWord w × AreWords ws

abbrev pub AreInput : List ℕ → Type 0
AreInput [] = Unit {0}
AreInput (b ∷ bs) = (b < 256) × AreInput bs

pub record IsSound (w : World) : Type 0 where
  pub objects : AreSoundObjects w.objects
  pub arguments : AreWords w.arguments
  pub input : AreInput w.input

-- the values of names are words
abbrev pub IsSoundEnvironment : Environment → Type 0
IsSoundEnvironment e = (name : ℕ) (v : Value) → e.global name ≡ Some v → IsWord (Plain v)

abbrev pub IsSoundValue : Option Word → Type 0
IsSoundValue None = Unit {0}
IsSoundValue (Some w) = IsWord w

abbrev pub IsSoundMove : Move → Type 0
IsSoundMove Next = Unit {0}
IsSoundMove (To l) = Unit {0}
IsSoundMove (End v) = IsSoundValue v

-- what a step gives is sound where it goes on
abbrev pub IsSoundEffect : Effect → Type 0
IsSoundEffect (Went ws p mv) = AreWords ws × IsSound p.world × IsSoundMove mv
IsSoundEffect (Exits status w) = Unit {0}
IsSoundEffect (Unfinished w) = Unit {0}
IsSoundEffect Stuck = Unit {0}

abbrev pub IsSoundOutcome : Outcome → Type 0
IsSoundOutcome (Finished v p) = IsSoundValue v × IsSound p.world
IsSoundOutcome (Exited status w) = Unit {0}
IsSoundOutcome (Going w) = Unit {0}
IsSoundOutcome Failed = Unit {0}
