-- What is read from memory where objects lie: bytes, words and narrower numbers.
-- Source: ISO/IEC 9899:1990, 6.1.2.5 (representation of types), 6.3.3.2.
use Rattle.std.specs.Prelude.{◌≡◌, ◌<◌, ℕ, ◌+◌, ◌%◌, ◌^◌, List, Option, Some, None, length}
use Rattle.std.specs.List.{AllZip}
use Rattle.lcc_base.specs.declared.order.Order.{Order}
use Rattle.lcc_base.specs.NumberIn.{number_in}
use Rattle.objects.specs.declared.byte.Byte.{Byte}
use Rattle.objects.specs.declared.value.Value.{Value}
use Rattle.objects.specs.declared.width.Width.{Width}
use Rattle.objects.specs.Accesses.{read_cause}
use Rattle.objects.specs.Bytes.{number_bytes}
use Rattle.objects.specs.Values.{bytes_in, bits_in}
use Rattle.forests.specs.Words.{Word, Plain}
use Rattle.forests.specs.WordBytes.{word_bytes, word_in}
use Rattle.forests.specs.Objects.{Object, shapes}
use Rattle.forests.specs.Accesses.{word_read, number_read}
use Rattle.memory_map.specs.Maps.{Map, IsWord, IsByte, start_at}
use Rattle.memory_map.specs.Lies.{Lies}
use Rattle.memory_map.specs.Memory.{Stand, HaveBytes, IsAlignment, IsAccess}

-- bytes of an object stand in memory
abbrev pub BytesStand : Type 0
BytesStand =
    (map : Map) (floor made : ℕ) (objects : List Object) (memory : ℕ → Option ℕ) (o offset a : ℕ)
    (bs : List (Byte Word))
    → Lies map floor made objects memory → start_at map objects o ≡ Some a
    → HaveBytes objects o offset bs
    → (vs : List ℕ) × (length vs ≡ length bs) × Stand memory (a + offset) vs
    × AllZip (IsByte map) bs vs

-- the bytes of a word are those of the machine's word
abbrev pub WordsHaveBytes : Type 0
WordsHaveBytes =
    (map : Map) (order : Order) (w : Word) (h : ℕ) → h < 2 ^ 32 → IsWord map w h
    → AllZip (IsByte map) (word_bytes order w) (number_bytes order 4 h)

-- and four bytes are a word that the machine's are
abbrev pub BytesAreWords : Type 0
BytesAreWords =
    (map : Map) (order : Order) (bs : List (Byte Word)) (vs : List ℕ)
    → length bs ≡ 4 → AllZip (IsByte map) bs vs → IsWord map (word_in order bs) (number_in order vs)

-- where C's access is defined, the machine's is: it goes to the same bytes, which are there
abbrev pub AccessesAre : Type 0
AccessesAre =
    (map : Map) (floor made : ℕ) (objects : List Object) (memory : ℕ → Option ℕ) (p : Value)
    (h size alignment : ℕ)
    → Lies map floor made objects memory → IsWord map (Plain p) h → IsAlignment alignment
    → read_cause (shapes objects) p size alignment ≡ None → IsAccess floor memory h size alignment

-- a word is loaded through a pointer
abbrev pub WordsAreLoaded : Type 0
WordsAreLoaded =
    (map : Map) (floor made : ℕ) (objects : List Object) (memory : ℕ → Option ℕ) (order : Order)
    (p w : Word) (h : ℕ)
    → Lies map floor made objects memory → IsWord map p h → word_read order objects p ≡ Some w
    → IsAccess floor memory h 4 4
    × ((vs : List ℕ) → length vs ≡ 4 → Stand memory h vs → IsWord map w (number_in order vs))

-- a narrower number is loaded, with any bits above it
abbrev pub NumbersAreLoaded : Type 0
NumbersAreLoaded =
    (map : Map) (floor made : ℕ) (objects : List Object) (memory : ℕ → Option ℕ) (order : Order)
    (width : Width) (p w : Word) (h : ℕ)
    → Lies map floor made objects memory → IsWord map p h
    → number_read order width objects p ≡ Some w
    → IsAccess floor memory h (bytes_in width) (bytes_in width)
    × ((vs : List ℕ) (n : ℕ) → length vs ≡ bytes_in width → Stand memory h vs → n % 2 ^ bits_in width ≡ number_in order vs → IsWord map w n)
