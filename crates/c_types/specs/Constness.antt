-- Which objects are const, and which can't be changed as a whole, since something of them is const (C89 3.2.2.1,
-- 3.5.3).
use Rattle.std.proofs.Common.{refl}
use Rattle.std.specs.Prelude.{◌≡◌, ℕ, ◌==◌, Bool, true, false, Some, None, codes, ◌||◌, bit_and, List, [], ◌∷◌, if◌then◌else◌}
use Rattle.c_types.specs.CType.{CType, Plain, Array, Kind, Simple, Structure, Union, Int}
use Rattle.c_types.specs.Layout.{MemberType, Tag}

-- The type is const, or of an array the element is: a const member makes no object const.
abbrev pub is_const : CType → Bool
is_const (Plain q k) = bit_and q 1 == 1
is_const (Array of n) = is_const of

-- where it is known of structures and unions
abbrev pub kind_has_const : (ℕ → Bool) → Kind → Bool
kind_has_const known (Structure n) = known n
kind_has_const known (Union n) = known n
kind_has_const known k = false

abbrev pub has_const_by : (ℕ → Bool) → CType → Bool
has_const_by known (Plain q k) = (bit_and q 1 == 1) || kind_has_const known k
has_const_by known (Array of n) = has_const_by known of

abbrev pub some_const : (ℕ → Bool) → List MemberType → Bool
some_const known [] = false
some_const known (m ∷ ms) = has_const_by known m.of || some_const known ms

-- of structures and unions by their numbers, the latest first: each by those that were complete before it
abbrev pub const_known : List Tag → ℕ → Bool
const_known [] n = false
const_known (tag ∷ older) n = if n == tag.number then some_const (const_known older) tag.members else const_known older n

-- the type is const, or an element or a member of it is
abbrev pub has_const : List Tag → CType → Bool
has_const tags = has_const_by (const_known tags)

-- ---- examples: an array of const ints is const, and a structure with a const member has something const

const_elements : is_const (Array (Plain 1 (Simple Int)) (Some 3)) ≡ true
const_elements = refl

const_member : (is_const (Plain 0 (Structure 0)) ≡ false) × (has_const (record { number = 0; is_union = false; members = record { name = codes "m"; of = Plain 1 (Simple Int); width = None } ∷ [] } ∷ []) (Plain 0 (Structure 0)) ≡ true)
const_member = (refl, refl)
