-- Objects in their lifetimes, and what is changed in them.
-- Source: ISO/IEC 9899:1990, 3.14 (object), 6.1.2.4 (storage durations).
use Rattle.std.specs.Prelude.{ℕ, zero, suc, ◌+◌, ◌==◌, ◌&&◌, Bool, false, List, [], ◌∷◌, ◌++◌, length, take, drop, Option, Some, None, slice_get, if◌then◌else◌}
use Rattle.objects.specs.declared.byte.Byte.{Byte}
use Rattle.objects.specs.declared.value.ObjectName.{ObjectName}
use Rattle.objects.specs.declared.value.Value.{Value}
use Rattle.objects.specs.declared.value.Value.TheVariants.{Number, Pointer, Function}

-- how many were made before it, whether nothing but its initialiser may write it, and its bytes, whose number is its size
pub record Object : Type 0 where
  pub made : ℕ
  pub constant : Bool
  pub bytes : List (Byte Value)

-- The objects that live, by their places: in a call's or block's end the last ones go. And how many were made in all.
pub record Storage : Type 0 where
  pub objects : List Object
  pub made : ℕ

-- the name of the object of so many bytes that is made next
abbrev pub next_name : Storage → ℕ → ObjectName
next_name s size = record { place = length s.objects; made = s.made; size = size }

-- an object of these bytes made
abbrev pub with_object : Storage → Bool → List (Byte Value) → Storage
with_object s constant bytes = record { objects = s.objects ++ record { made = s.made; constant = constant; bytes = bytes } ∷ []; made = s.made + 1 }

-- all objects but the first so many are past their lifetimes
abbrev pub ended : Storage → ℕ → Storage
ended s count = record { objects = take count s.objects; made = s.made }

-- it is the object of this name
abbrev pub is_named : ObjectName → Object → Bool
is_named name x = (x.made == name.made) && (length x.bytes == name.size)

abbrev pub if_named : ObjectName → Option Object → Option Object
if_named name None = None
if_named name (Some x) = if is_named name x then Some x else None

-- the object of this name, in its lifetime
abbrev pub object_of : List Object → ObjectName → Option Object
object_of objects name = if_named name (slice_get objects name.place)

abbrev pub contents : Option Object → List (Byte Value)
contents None = []
contents (Some x) = x.bytes

abbrev pub is_constant : Option Object → Bool
is_constant None = false
is_constant (Some x) = x.constant

-- so many bytes of an object from a place on
abbrev pub bytes_at : List Object → ObjectName → ℕ → ℕ → List (Byte Value)
bytes_at objects name place size = take size (drop place (contents (object_of objects name)))

-- a list with others in place of its elements from a place on; its length stays
abbrev pub overwritten : {A : Type 0} → ℕ → List A → List A → List A
overwritten zero [] old = old
overwritten zero (x ∷ xs) [] = []
overwritten zero (x ∷ xs) (y ∷ ys) = x ∷ overwritten zero xs ys
overwritten (suc k) new [] = []
overwritten (suc k) new (y ∷ ys) = y ∷ overwritten k new ys

abbrev pub with_bytes : Object → ℕ → List (Byte Value) → Object
with_bytes x place new = record { made = x.made; constant = x.constant; bytes = overwritten place new x.bytes }

-- the object at a place is changed
abbrev pub stored : List Object → ℕ → ℕ → List (Byte Value) → List Object
stored [] o place new = []
stored (x ∷ xs) zero place new = with_bytes x place new ∷ xs
stored (x ∷ xs) (suc o) place new = x ∷ stored xs o place new

-- the flag of the object at a place set
abbrev pub flagged : List Object → ℕ → Bool → List Object
flagged [] place constant = []
flagged (x ∷ xs) zero constant = record { made = x.made; constant = constant; bytes = x.bytes } ∷ xs
flagged (x ∷ xs) (suc n) constant = x ∷ flagged xs n constant

abbrev pub flagged_through : List Object → Value → Bool → List Object
flagged_through os (Pointer object offset) constant = flagged os object.place constant
flagged_through os (Number n) constant = os
flagged_through os (Function f) constant = os
