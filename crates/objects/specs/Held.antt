-- The bytes of an object as it keeps them: the values of all bytes; behind them the masks of their known bits, none where all
-- are known; and, for some places whose mask is 0, a byte of a pointer or function.
use Rattle.std.specs.Prelude.{◌≡◌, ◌⊎◌, ◌<◌, ℕ, suc, ◌+◌, ◌^◌, ◌==◌, List, [], ◌∷◌, length, Option, unwrap_or, if◌then◌else◌}
use Rattle.objects.specs.declared.byte.Byte.{Byte}
use Rattle.objects.specs.declared.byte.Byte.TheVariants.{Bits}
use Rattle.objects.specs.declared.value.Value.{Value}

abbrev pub shown : Option (Byte Value) → ℕ → ℕ → Byte Value
shown part known value = if known == 0 then unwrap_or part (Bits known value) else Bits known value

-- the bytes from a place on
abbrev pub held : (ℕ → Option (Byte Value)) → ℕ → List ℕ → List ℕ → List (Byte Value)
held parts i [] masks = []
held parts i (v ∷ vs) [] = Bits 255 v ∷ held parts (suc i) vs []
held parts i (v ∷ vs) (k ∷ ks) = shown (parts i) k v ∷ held parts (suc i) vs ks

-- so many values, and behind them a mask for each or none; and places are counted by words
pub record IsHeld (size : ℕ) (bytes : List ℕ) : Type 0 where
  pub complete : (length bytes ≡ size) ⊎ (length bytes ≡ size + size)
  pub small : size < 2 ^ 32
