-- The objects of a run, in their lifetimes: those of C, with bytes that may be a label's. When an access is undefined
-- doesn't depend on bytes: it is told by the shapes of objects, which are objects of C.
-- Source: ISO/IEC 9899:1990, 3.14 (object), 6.1.2.4 (storage durations).
use Rattle.std.specs.Prelude.{ℕ, zero, suc, Bool, false, List, [], ◌∷◌, map, take, drop, Option, Some, None, slice_get}
use Rattle.objects.specs.declared.byte.Byte.{Byte}
use Rattle.objects.specs.declared.value.Value.{Value}
use Rattle.objects.specs.declared.value.Value.TheVariants.{Pointer}
use Rattle.objects.specs.Bytes.{unknown_byte}
use Rattle.objects.specs.Objects.{overwritten}
use Rattle.objects.specs.Objects.{Object as Shape}
use Rattle.forests.specs.Words.{Word}

-- how many were made before it, whether it may not be written, and its bytes, whose number is its size
pub record Object : Type 0 where
  pub made : ℕ
  pub constant : Bool
  pub bytes : List (Byte Word)

-- the object of C of the same name and size, of whose bytes nothing is known
abbrev pub shape_of : Object → Shape
shape_of x = record { made = x.made; constant = x.constant; bytes = map (λ b. unknown_byte) x.bytes }

abbrev pub shapes : List Object → List Shape
shapes objects = map shape_of objects

-- objects of these bytes, made one behind the other, which may be written
abbrev pub objects_from : ℕ → List (List (Byte Word)) → List Object
objects_from made [] = []
objects_from made (b ∷ bs) = record { made = made; constant = false; bytes = b } ∷ objects_from (suc made) bs

abbrev pub contents : Option Object → List (Byte Word)
contents None = []
contents (Some x) = x.bytes

-- so many bytes at a place
abbrev pub bytes_through : List Object → Value → ℕ → List (Byte Word)
bytes_through objects (Pointer object offset) size = take size (drop offset (contents (slice_get objects object.place)))
bytes_through objects v size = []

abbrev pub with_bytes : Object → ℕ → List (Byte Word) → Object
with_bytes x place new = record { made = x.made; constant = x.constant; bytes = overwritten place new x.bytes }

-- the object at a place is changed
abbrev pub stored : List Object → ℕ → ℕ → List (Byte Word) → List Object
stored [] o place new = []
stored (x ∷ xs) zero place new = with_bytes x place new ∷ xs
stored (x ∷ xs) (suc o) place new = x ∷ stored xs o place new

-- the objects with others at a place
abbrev pub stored_through : List Object → Value → List (Byte Word) → List Object
stored_through objects (Pointer object offset) new = stored objects object.place offset new
stored_through objects v new = objects
