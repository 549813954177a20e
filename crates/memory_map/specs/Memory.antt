-- Bytes that stand in a memory and in an object, and memories that differ in some bytes.
use Rattle.std.specs.Prelude.{◌≡◌, ◌≤◌, ◌<◌, ◌⊎◌, ℕ, ◌+◌, ◌%◌, ◌^◌, List, Option, Some, length, slice_get}
use Rattle.objects.specs.declared.byte.Byte.{Byte}
use Rattle.forests.specs.Words.{Word}
use Rattle.forests.specs.Objects.{Object}
use Rattle.memory_map.specs.Maps.{HasByte}

-- the memory with these bytes from an address on, and the others as before
pub record Changed (old new : ℕ → Option ℕ) (at : ℕ) (bytes : List ℕ) : Type 0 where
  pub inside : (k v : ℕ) → slice_get bytes k ≡ Some v → new (at + k) ≡ Some v
  pub outside : (a : ℕ) → (a < at) ⊎ (at + length bytes ≤ a) → new a ≡ old a

-- these bytes stand there
abbrev pub Stand : (ℕ → Option ℕ) → ℕ → List ℕ → Type 0
Stand memory at bytes = (k v : ℕ) → slice_get bytes k ≡ Some v → memory (at + k) ≡ Some v

-- the object at a place has these bytes from an offset on
abbrev pub HaveBytes : List Object → ℕ → ℕ → List (Byte Word) → Type 0
HaveBytes objects o offset bytes =
    (k : ℕ) (b : Byte Word) → slice_get bytes k ≡ Some b → HasByte objects o (offset + k) b

-- the object at a place has so many bytes from an offset on, whichever they are
abbrev pub HasSome : List Object → ℕ → ℕ → ℕ → Type 0
HasSome objects o offset size =
    (k : ℕ) → k < size → (b : Byte Word) × HasByte objects o (offset + k) b

-- what forests and C align accesses to
abbrev pub IsAlignment : ℕ → Type 0
IsAlignment alignment = (alignment ≡ 1) ⊎ ((alignment ≡ 2) ⊎ (alignment ≡ 4))

-- An access by a machine: its address is a multiple of the alignment, its bytes are there and wholly below the stack's floor
-- or wholly above it, and it doesn't wrap.
pub record IsAccess (floor : ℕ) (memory : ℕ → Option ℕ) (address size alignment : ℕ) : Type 0 where
  pub aligned : address % alignment ≡ 0
  pub there : (k : ℕ) → k < size → (v : ℕ) × (memory (address + k) ≡ Some v)
  pub side : (address + size ≤ floor) ⊎ (floor ≤ address)
  pub some : 0 < address
  pub small : address + size < 2 ^ 32
