-- What a store leaves in memory: the objects lie there with the bytes that were written.
-- Source: ISO/IEC 9899:1990, 6.1.2.5 (representation of types), 6.3.16.
use Rattle.std.specs.Prelude.{◌≡◌, ◌≤◌, ◌<◌, ℕ, ◌+◌, ◌^◌, List, Option, Some, length}
use Rattle.std.specs.List.{AllZip}
use Rattle.lcc_base.specs.declared.order.Order.{Order}
use Rattle.objects.specs.declared.byte.Byte.{Byte}
use Rattle.objects.specs.declared.width.Width.{Width}
use Rattle.objects.specs.Bytes.{number_bytes}
use Rattle.objects.specs.Values.{bytes_in}
use Rattle.forests.specs.Words.{Word}
use Rattle.forests.specs.Objects.{Object, stored}
use Rattle.forests.specs.Accesses.{word_written, number_written, block_copied}
use Rattle.memory_map.specs.Maps.{Map, IsWord, IsByte, start_at}
use Rattle.memory_map.specs.Lies.{Lies, IsClear}
use Rattle.memory_map.specs.Memory.{Changed, Stand, HasSome, IsAlignment, IsAccess}

-- bytes of an object are written, all of which it has
abbrev pub BytesAreWritten : Type 0
BytesAreWritten =
    (map : Map) (floor made : ℕ) (objects : List Object) (old new : ℕ → Option ℕ) (o offset a : ℕ)
    (bs : List (Byte Word)) (vs : List ℕ)
    → Lies map floor made objects old → start_at map objects o ≡ Some a
    → HasSome objects o offset (length bs)
    → AllZip (IsByte map) bs vs → Changed old new (a + offset) vs
    → Lies map floor made (stored objects o offset bs) new

-- bytes are written where no object that lives has one
abbrev pub ClearStays : Type 0
ClearStays =
    (map : Map) (floor made : ℕ) (objects : List Object) (old new : ℕ → Option ℕ) (at : ℕ)
    (vs : List ℕ)
    → Lies map floor made objects old → IsClear map objects (λ x. (at ≤ x) × (x < at + length vs))
    → Changed old new at vs
    → Lies map floor made objects new

-- a word is stored through a pointer
abbrev pub WordsAreStored : Type 0
WordsAreStored =
    (map : Map) (floor made : ℕ) (objects after : List Object) (old new : ℕ → Option ℕ)
    (order : Order) (p w : Word) (h n : ℕ)
    → Lies map floor made objects old → IsWord map p h → IsWord map w n → n < 2 ^ 32
    → word_written order w objects p ≡ Some after
    → IsAccess floor old h 4 4
    × (Changed old new h (number_bytes order 4 n) → Lies map floor made after new)

-- the low bytes of a word are, which have to be known
abbrev pub NumbersAreStored : Type 0
NumbersAreStored =
    (map : Map) (floor made : ℕ) (objects after : List Object) (old new : ℕ → Option ℕ)
    (order : Order) (width : Width) (p w : Word) (h n : ℕ)
    → Lies map floor made objects old → IsWord map p h → IsWord map w n
    → number_written order width w objects p ≡ Some after
    → IsAccess floor old h (bytes_in width) (bytes_in width)
    × (Changed old new h (number_bytes order (bytes_in width) n) → Lies map floor made after new)

-- a block is copied, from the bytes that stood there
abbrev pub BlocksAreCopied : Type 0
BlocksAreCopied =
    (map : Map) (floor made : ℕ) (objects after : List Object) (old new : ℕ → Option ℕ)
    (size alignment : ℕ) (from to : Word) (h t : ℕ) (vs : List ℕ)
    → Lies map floor made objects old → IsWord map from h → IsWord map to t → IsAlignment alignment
    → block_copied size alignment objects from to ≡ Some after
    → IsAccess floor old h size alignment × IsAccess floor old t size alignment
    × (length vs ≡ size → Stand old h vs → Changed old new t vs → Lies map floor made after new)
