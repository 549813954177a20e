-- What accesses of forests do where those of C that they stand for are defined.
use Rattle.std.specs.Prelude.{◌≡◌, ℕ, ◌%◌, ◌^◌, true, Some, None, Ok, List, length, slice_get}
use Rattle.lcc_base.specs.declared.order.Order.{Order}
use Rattle.objects.specs.declared.byte.Byte.{Byte}
use Rattle.objects.specs.declared.purpose.Purpose.{Purpose}
use Rattle.objects.specs.declared.purpose.Purpose.TheVariants.{Assignment}
use Rattle.objects.specs.declared.value.Value.{Value}
use Rattle.objects.specs.declared.value.Value.TheVariants.{Number}
use Rattle.objects.specs.declared.width.Scalar.{Scalar}
use Rattle.objects.specs.declared.width.Width.{Width}
use Rattle.objects.specs.declared.width.Width.TheVariants.{Four}
use Rattle.objects.specs.Accesses.{read_cause, write_cause, read, written}
use Rattle.objects.specs.Accesses as c
use Rattle.objects.specs.Copies.{copied}
use Rattle.objects.specs.Values.{bits_in}
use Rattle.objects.specs.Objects.{Object as Old}
use Rattle.forests.specs.Accesses.{word_read, number_read, word_written, number_written, block_copied}
use Rattle.forests.specs.Numbers.{widened}
use Rattle.forests.specs.Objects.{Object, shapes, bytes_through, stored_through}
use Rattle.forests.specs.Sound.{AreSoundObjects}
use Rattle.forests.specs.Words.{Word, Plain, low_number}
use Rattle.c_match.specs.Ranges.{Map}
use Rattle.c_match.specs.Values.{IsValue}
use Rattle.c_match.specs.Bytes.{AreBytesOf}
use Rattle.c_match.specs.Held.{AreHeld, IsOpenTo, IsAlignment}
use Rattle.c_match.specs.Left.{IsPrivate, IsLeft}

-- ---- reads

-- An access of C that nothing forbids isn't forbidden in forests, and the bytes there stand for C's.
abbrev pub AccessesGo : Type 0
AccessesGo =
    (map : Map) (old : List Old) (objects : List Object) (p : Value) (w : Word) (size alignment : ℕ)
    → AreHeld map old objects → IsValue map p w → IsAlignment alignment → read_cause old p size alignment ≡ None
    → (q : Value) × (w ≡ Plain q) × (read_cause (shapes objects) q size alignment ≡ None) × AreBytesOf map (c.bytes_through old p size) (bytes_through objects q size)

-- a scalar of four bytes that C reads stands as a word that forests read
abbrev pub WordsAreRead : Type 0
WordsAreRead =
    (map : Map) (old : List Old) (objects : List Object) (order : Order) (s : Scalar) (p v : Value) (w : Word)
    → AreHeld map old objects → AreSoundObjects objects → IsValue map p w → s.width ≡ Four → read order s old p ≡ Ok v
    → (u : Word) × (word_read order objects w ≡ Some u) × IsValue map v u

-- a narrower one is a number, and the number that forests read is its low bits
abbrev pub NumbersAreRead : Type 0
NumbersAreRead =
    (map : Map) (old : List Old) (objects : List Object) (order : Order) (s : Scalar) (p v : Value) (w : Word)
    → AreHeld map old objects → AreSoundObjects objects → IsValue map p w → (s.width ≡ Four → ⊥) → read order s old p ≡ Ok v
    → (u x : Word) × (number_read order s.width objects w ≡ Some u) × (widened s.signed (bits_in s.width) u ≡ Some x) × IsValue map v x

-- ---- stores

-- Behind a store of C's, and the one of forests that stands for it: the objects are held as before, and what held nothing of C is as
-- it was, and holds nothing still. An object of forests that may not be written is as it was too.
pub record IsKept (map : Map) (old new : List Old) (objects after : List Object) : Type 0 where
  pub held : AreHeld map new after
  pub left : IsLeft map old objects after
  pub private : (place : ℕ) → IsPrivate map old place → IsPrivate map new place
  pub constants : (place : ℕ) (home : Object) → slice_get objects place ≡ Some home → home.constant ≡ true → slice_get after place ≡ Some home

-- bytes of any number
abbrev pub StoresGo : Type 0
StoresGo =
    (map : Map) (old : List Old) (objects : List Object) (purpose : Purpose) (p : Value) (w : Word) (size alignment : ℕ) (bytes : List (Byte Value)) (other : List (Byte Word))
    → AreHeld map old objects → IsValue map p w → IsAlignment alignment → IsOpenTo purpose map objects p
    → AreBytesOf map bytes other → length bytes ≡ size → length other ≡ size → write_cause purpose old p size alignment ≡ None
    → (q : Value) × (w ≡ Plain q) × (write_cause Assignment (shapes objects) q size alignment ≡ None) × IsKept map old (c.stored_through old p bytes) objects (stored_through objects q other)

-- a value that is stored as four bytes, and the word that stands for it
abbrev pub WordsAreStored : Type 0
WordsAreStored =
    (map : Map) (old new : List Old) (objects : List Object) (order : Order) (purpose : Purpose) (p v : Value) (w u : Word)
    → AreHeld map old objects → IsValue map p w → IsOpenTo purpose map objects p → IsValue map v u → written purpose order Four v old p ≡ Ok new
    → (after : List Object) × (word_written order u objects w ≡ Some after) × IsKept map old new objects after

-- a number of one or two bytes, and a word that has its low bits
abbrev pub NumbersAreStored : Type 0
NumbersAreStored =
    (map : Map) (old new : List Old) (objects : List Object) (order : Order) (purpose : Purpose) (width : Width) (p : Value) (n : ℕ) (w u : Word)
    → AreHeld map old objects → IsValue map p w → IsOpenTo purpose map objects p → low_number (bits_in width) u ≡ Some (n % 2 ^ bits_in width) → written purpose order width (Number n) old p ≡ Ok new
    → (after : List Object) × (number_written order width u objects w ≡ Some after) × IsKept map old new objects after

-- a structure that is copied
abbrev pub CopiesGo : Type 0
CopiesGo =
    (map : Map) (old new : List Old) (objects : List Object) (purpose : Purpose) (from to : Value) (u w : Word) (size alignment : ℕ)
    → AreHeld map old objects → IsValue map from u → IsValue map to w → IsAlignment alignment → IsOpenTo purpose map objects to → copied purpose old from to size alignment ≡ Ok new
    → (after : List Object) × (block_copied size alignment objects u w ≡ Some after) × IsKept map old new objects after
