-- When the objects that live lie in a memory, and what is clear of them.
-- Source: ISO/IEC 9899:1990, 3.14 (object), 6.1.2.4 (storage durations).
use Rattle.std.specs.Prelude.{◌≡◌, ◌≤◌, ◌<◌, ◌⊎◌, ℕ, ◌+◌, ◌-◌, ◌%◌, ◌^◌, nat_lt, if◌then◌else◌, List, Option, Some, length, slice_get}
use Rattle.objects.specs.declared.byte.Byte.{Byte}
use Rattle.forests.specs.Words.{Word}
use Rattle.forests.specs.Objects.{Object}
use Rattle.memory_map.specs.Maps.{Map, IsByte, start_at, HasByte}

-- So many bytes from an address on have numbers of 32 bits, and so has the place behind them; the first isn't 0. They lie
-- wholly below the stack's floor or wholly above it.
pub record HasRoom (floor address size : ℕ) : Type 0 where
  pub some : 0 < address
  pub small : address + size < 2 ^ 32
  pub side : (address + size ≤ floor) ⊎ (floor ≤ address)

-- Where so many objects were made: no other has an address; each that lives has one, with room for it; they are multiples
-- of 4, and no two objects that live share a byte.
pub record IsLaid (map : Map) (floor made : ℕ) (objects : List Object) : Type 0 where
  pub known : (o : ℕ) (x : Object) → slice_get objects o ≡ Some x
      → (a : ℕ) × (map.object x.made ≡ Some a)
  pub fresh : (m a : ℕ) → map.object m ≡ Some a → m < made
  pub four : (m a : ℕ) → map.object m ≡ Some a → a % 4 ≡ 0
  pub room : (o a : ℕ) (x : Object) → slice_get objects o ≡ Some x → map.object x.made ≡ Some a
      → HasRoom floor a (length x.bytes)
  pub apart : (o i p j a c : ℕ) (b d : Byte Word) → HasByte objects o i b → HasByte objects p j d
      → start_at map objects o ≡ Some a → start_at map objects p ≡ Some c → a + i ≡ c + j → o ≡ p

-- and their bytes stand in memory
pub record Lies (map : Map) (floor made : ℕ) (objects : List Object) (memory : ℕ → Option ℕ) : Type 0 where
  pub laid : IsLaid map floor made objects
  pub bytes : (o i a : ℕ) (b : Byte Word) → HasByte objects o i b → start_at map objects o ≡ Some a
      → (v : ℕ) × (memory (a + i) ≡ Some v) × IsByte map b v

-- no byte of an object that lives has one of these addresses
abbrev pub IsClear : Map → List Object → (ℕ → Type 0) → Type 0
IsClear map objects P =
    (o i a : ℕ) (b : Byte Word) → HasByte objects o i b → start_at map objects o ≡ Some a
    → P (a + i) → ⊥

-- each object that lives did before, under its name and with no fewer bytes
pub record Fades (old new : List Object) : Type 0 where
  pub before : (o : ℕ) (x : Object) → slice_get new o ≡ Some x
      → (y : Object) × (slice_get old o ≡ Some y) × (x.made ≡ y.made) × (length x.bytes ≤ length y.bytes)

-- ---- new objects

-- where so many were made before, the next ones lie at these addresses
abbrev pub object_at : Map → ℕ → List ℕ → ℕ → Option ℕ
object_at map made places m = if nat_lt m made then map.object m else slice_get places (m - made)

abbrev pub extended : Map → ℕ → List ℕ → Map
extended map made places = record { object = object_at map made places; function = map.function; label = map.label }

-- they were made one behind the other
abbrev pub AreNumbered : ℕ → List Object → Type 0
AreNumbered made new = (k : ℕ) (x : Object) → slice_get new k ≡ Some x → x.made ≡ made + k

-- as many addresses as objects, multiples of 4 with room for the objects, of which no two share a byte
pub record Spread (floor : ℕ) (places : List ℕ) (new : List Object) : Type 0 where
  pub many : length places ≡ length new
  pub four : (k a : ℕ) → slice_get places k ≡ Some a → a % 4 ≡ 0
  pub room : (k a : ℕ) (x : Object) → slice_get new k ≡ Some x → slice_get places k ≡ Some a
      → HasRoom floor a (length x.bytes)
  pub apart : (k i l j a c : ℕ) (b d : Byte Word) → HasByte new k i b → HasByte new l j d
      → slice_get places k ≡ Some a → slice_get places l ≡ Some c → a + i ≡ c + j → k ≡ l

-- the address of a byte of one of the objects at these addresses
pub record IsOf (places : List ℕ) (new : List Object) (x : ℕ) : Type 0 where
  pub object : ℕ
  pub place : ℕ
  pub start : ℕ
  pub byte : Byte Word
  pub there : slice_get places object ≡ Some start
  pub has : HasByte new object place byte
  pub is : x ≡ start + place

-- their bytes stand in memory
abbrev pub StandAll : Map → List ℕ → List Object → (ℕ → Option ℕ) → Type 0
StandAll map places new memory =
    (k i a : ℕ) (b : Byte Word) → HasByte new k i b → slice_get places k ≡ Some a
    → (v : ℕ) × (memory (a + i) ≡ Some v) × IsByte map b v
