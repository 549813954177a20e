-- Bytes of objects. A byte has eight bits, each 0, 1 or unknown; or it is the byte at some place of a value that has
-- bytes but no bits, as a pointer or a function. The values are a parameter, so that others may have such bytes too.
-- Source: ISO/IEC 9899:1990, 6.1.2.5 (representation of types), as a memory of objects.
use Rattle.std.specs.Prelude.{◌≡◌, ◌<◌, ℕ, zero, suc, ◌/◌, ◌%◌, ◌==◌, ◌&&◌, ◌||◌, not, Bool, true, false, bit_and, List, [], ◌∷◌, map, reverse, Option, Some, None, if◌then◌else◌}
use Rattle.lcc_base.specs.declared.order.Order.{Order}
use Rattle.lcc_base.specs.declared.order.Order.TheVariants.{Big, Little}
use Rattle.lcc_base.specs.NumberIn.{number_in}
use Rattle.objects.specs.declared.byte.Byte.{Byte}
use Rattle.objects.specs.declared.byte.Byte.TheVariants.{Bits, Part}

-- a byte: the known bits are among eight, and the others are 0; a value has four bytes
abbrev pub IsByte : {V : Type 0} → Byte V → Type 0
IsByte (Bits known value) = (known < 256) × (bit_and value known ≡ value)
IsByte (Part whole place) = place < 4

abbrev pub AreBytes : {V : Type 0} → List (Byte V) → Type 0
AreBytes [] = Unit {0}
AreBytes (b ∷ bs) = IsByte b × AreBytes bs

-- eight bits of which nothing is known
abbrev pub unknown_byte : {V : Type 0} → Byte V
unknown_byte = Bits 0 0

-- bytes all of whose bits are known
abbrev pub known_bytes : {V : Type 0} → List ℕ → List (Byte V)
known_bytes ns = map (λ n. Bits 255 n) ns

-- ---- what single bytes and lists of them have

abbrev pub known_of : {V : Type 0} → Byte V → ℕ
known_of (Bits known value) = known
known_of (Part whole place) = 0

abbrev pub value_of : {V : Type 0} → Byte V → ℕ
value_of (Bits known value) = value
value_of (Part whole place) = 0

-- the bits that lie in a byte of a pointer or function
abbrev pub part_bits_of : {V : Type 0} → Byte V → ℕ
part_bits_of (Bits known value) = 0
part_bits_of (Part whole place) = 255

-- the bits that aren't unknown
abbrev pub settled_of : {V : Type 0} → Byte V → ℕ
settled_of (Bits known value) = known
settled_of (Part whole place) = 255

abbrev pub is_part : {V : Type 0} → Byte V → Bool
is_part (Bits known value) = false
is_part (Part whole place) = true

-- one of them has an unknown bit
abbrev pub has_unknown_bits : {V : Type 0} → List (Byte V) → Bool
has_unknown_bits [] = false
has_unknown_bits (b ∷ bs) = not (settled_of b == 255) || has_unknown_bits bs

-- one of them is a byte of a pointer or function
abbrev pub has_parts : {V : Type 0} → List (Byte V) → Bool
has_parts [] = false
has_parts (b ∷ bs) = is_part b || has_parts bs

-- ---- numbers and pointers as bytes in memory

-- so many low bytes of a number, from the one that weighs least
abbrev pub low_bytes : ℕ → ℕ → List ℕ
low_bytes zero n = []
low_bytes (suc w) n = n % 256 ∷ low_bytes w (n / 256)

-- the same in memory
abbrev pub number_bytes : Order → ℕ → ℕ → List ℕ
number_bytes Big w n = reverse (low_bytes w n)
number_bytes Little w n = low_bytes w n

-- from the byte that weighs most, and back
abbrev pub by_weight : {A : Type 0} → Order → List A → List A
by_weight Big bytes = bytes
by_weight Little bytes = reverse bytes

-- the four bytes of a pointer or function in memory
abbrev pub part_bytes : {V : Type 0} → Order → V → List (Byte V)
part_bytes order v = by_weight order (Part v 0 ∷ Part v 1 ∷ Part v 2 ∷ Part v 3 ∷ [])

-- the byte at this place of v
abbrev pub is_part_of : {V : Type 0} → (V → V → Bool) → V → ℕ → Byte V → Bool
is_part_of same v place (Bits known value) = false
is_part_of same v place (Part w k) = same v w && (k == place)

-- these bytes are those of v from this place on, to the last
abbrev pub are_rest_of : {V : Type 0} → (V → V → Bool) → V → ℕ → List (Byte V) → Bool
are_rest_of same v place [] = place == 4
are_rest_of same v place (b ∷ bs) = is_part_of same v place b && are_rest_of same v (suc place) bs

-- the pointer or function all whose bytes these are, from the one that weighs most
abbrev pub whole_of : {V : Type 0} → (V → V → Bool) → List (Byte V) → Option V
whole_of same [] = None
whole_of same (Bits known value ∷ bs) = None
whole_of same (Part v k ∷ bs) = if are_rest_of same v 0 (Part v k ∷ bs) then Some v else None

-- the number of bytes whose bits are known
abbrev pub number_of_bytes : {V : Type 0} → Order → List (Byte V) → ℕ
number_of_bytes order bytes = number_in order (map value_of bytes)
