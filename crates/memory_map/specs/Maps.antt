-- Where objects, functions and labels lie in a machine's memory, and when a word or a byte of the machine is a value of
-- the forests. No register is named here, and no machine.
-- Source: Fraser and Hanson, A Retargetable C Compiler, chapter 5; ISO/IEC 9899:1990, 6.1.2.5 (representation of types).
use Rattle.std.specs.Prelude.{◌≡◌, ◌≤◌, ◌<◌, ℕ, ◌+◌, ◌%◌, ◌^◌, bit_and, List, Option, Some, None, slice_get}
use Rattle.lcc_base.specs.declared.order.Order.TheVariants.{Big}
use Rattle.objects.specs.declared.byte.Byte.{Byte}
use Rattle.objects.specs.declared.byte.Byte.TheVariants.{Bits, Part}
use Rattle.objects.specs.declared.value.Value.TheVariants.{Number, Pointer, Function}
use Rattle.objects.specs.Bytes.{number_bytes}
use Rattle.forests.specs.Words.{Word, Plain, Label, Partly}
use Rattle.forests.specs.Objects.{Object, contents}

-- The address of an object's first byte, by how many objects were made before it, where it lies in memory; the addresses of
-- functions; and those of the labels of functions. An object that is past its lifetime keeps its address, so that a map
-- only grows.
pub record Map : Type 0 where
  pub object : ℕ → Option ℕ
  pub function : ℕ → ℕ
  pub label : ℕ → ℕ → ℕ

-- The word of the machine is the value. A pointer stays within its object, or stands behind its last byte. A word that is
-- known in part is each that has its known bits.
abbrev pub IsWord : Map → Word → ℕ → Type 0
IsWord map (Plain (Number n)) h = h ≡ n
IsWord map (Plain (Pointer object offset)) h = (a : ℕ) × (map.object object.made ≡ Some a) × (h ≡ (a + offset) % 2 ^ 32) × (offset ≤ object.size)
IsWord map (Plain (Function name)) h = h ≡ map.function name
IsWord map (Label function label) h = h ≡ map.label function label
IsWord map (Partly mask bits) h = bit_and h mask ≡ bits

-- The byte of the machine is the byte of a value: it has the known bits; or it stands at this place, from the one that
-- weighs most, in a word that is the pointer, function or label.
abbrev pub IsByte : Map → Byte Word → ℕ → Type 0
IsByte map (Bits known value) h = (h < 256) × (known < 256) × (bit_and h known ≡ value)
IsByte map (Part word place) h = (x : ℕ) × IsWord map word x × (x < 2 ^ 32) × (slice_get (number_bytes Big 4 x) place ≡ Some h)

-- a later map: what lay in memory lies there still, and more may
pub record Grown (a b : Map) : Type 0 where
  pub objects : (o place : ℕ) → a.object o ≡ Some place → b.object o ≡ Some place
  pub functions : (f : ℕ) → b.function f ≡ a.function f
  pub labels : (f l : ℕ) → b.label f l ≡ a.label f l

-- the address of the object at a place among those that live
abbrev pub start_of : Map → Option Object → Option ℕ
start_of map None = None
start_of map (Some x) = map.object x.made

abbrev pub start_at : Map → List Object → ℕ → Option ℕ
start_at map objects o = start_of map (slice_get objects o)

-- the byte stands in the object at a place
abbrev pub HasByte : List Object → ℕ → ℕ → Byte Word → Type 0
HasByte objects o i b = slice_get (contents (slice_get objects o)) i ≡ Some b
