-- Where objects, functions and labels lie in a machine's memory, and when a word or a byte of the machine is a value of
-- the forests. No register is named here.
-- Source: Fraser and Hanson, A Retargetable C Compiler, chapter 5; ISO/IEC 9899:1990, 6.1.2.5 (representation of types).
use Rattle.std.specs.Prelude.{◌≡◌, ℕ, ◌+◌, ◌≤◌, ◌<◌, ◌%◌, ◌^◌, bit_and, List, Option, Some, None, slice_get}
use Rattle.lcc_base.specs.declared.order.Order.TheVariants.{Big}
use Rattle.objects.specs.declared.byte.Byte.{Byte}
use Rattle.objects.specs.declared.byte.Byte.TheVariants.{Bits, Part}
use Rattle.objects.specs.declared.value.Value.TheVariants.{Number, Pointer, Function}
use Rattle.objects.specs.Bytes.{number_bytes}
use Rattle.forests.specs.Words.{Word, Plain, Label, Partly}
use Rattle.forests.specs.Objects.{Object}

-- the address of an object's first byte, where it lies in memory, by how many objects were made before it; the addresses
-- of functions; and those of the labels of functions. The object that a name means is the one that was made under it, so a
-- map speaks of the objects that a state has made.
pub record Map : Type 0 where
  pub object : ℕ → Option ℕ
  pub function : ℕ → ℕ
  pub label : ℕ → ℕ → ℕ

-- The word of the machine is the value. A word that is known in part is each that has its known bits.
abbrev pub IsWord : Map → Word → ℕ → Type 0
IsWord map (Plain (Number n)) h = h ≡ n
IsWord map (Plain (Pointer object offset)) h = (a : ℕ) × (map.object object.made ≡ Some a) × (h ≡ (a + offset) % 2 ^ 32)
IsWord map (Plain (Function name)) h = h ≡ map.function name
IsWord map (Label function label) h = h ≡ map.label function label
IsWord map (Partly mask bits) h = bit_and h mask ≡ bits

-- the byte of the machine is the byte of a value
abbrev pub IsByte : Map → Byte Word → ℕ → Type 0
IsByte map (Bits known value) h = (h < 256) × (bit_and h known ≡ value)
IsByte map (Part word place) h = (x : ℕ) × (x < 2 ^ 32) × IsWord map word x × (slice_get (number_bytes Big 4 x) place ≡ Some h)

-- a later map: what lay in memory lies there still, and more may
pub record Grown (a b : Map) : Type 0 where
  pub objects : (o place : ℕ) → a.object o ≡ Some place → b.object o ≡ Some place
  pub functions : (f : ℕ) → b.function f ≡ a.function f
  pub labels : (f l : ℕ) → b.label f l ≡ a.label f l

-- a byte of the object at a place among those that live, and its address
pub record IsAt (map : Map) (objects : List Object) (object place address : ℕ) (byte : Byte Word) : Type 0 where
  pub content : Object
  pub start : ℕ
  pub there : slice_get objects object ≡ Some content
  pub lies : map.object content.made ≡ Some start
  pub byte_is : slice_get content.bytes place ≡ Some byte
  pub address_is : address ≡ start + place

-- Where so many objects were made, a name that wasn't made yet has no address, so that no word is a pointer with that name.
abbrev pub HasOnlyMade : Map → ℕ → Type 0
HasOnlyMade map made = (o : ℕ) → made ≤ o → map.object o ≡ None

-- Where so many objects were made, those of them that live and lie in memory have their bytes there, from multiples of 4
-- on, and no two share a byte.
pub record Lies (map : Map) (made : ℕ) (objects : List Object) (memory : ℕ → Option ℕ) : Type 0 where
  pub only_made : HasOnlyMade map made
  pub bytes : (o i a : ℕ) (b : Byte Word) → IsAt map objects o i a b → (v : ℕ) × (memory a ≡ Some v) × IsByte map b v
  pub four : (o i a : ℕ) (b : Byte Word) (x : IsAt map objects o i a b) → x.start % 4 ≡ 0
  pub apart : (o i p j a : ℕ) (b c : Byte Word) → IsAt map objects o i a b → IsAt map objects p j a c → o ≡ p
