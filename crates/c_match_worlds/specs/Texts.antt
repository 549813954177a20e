-- The texts of a program of C in its lowered unit.
-- Source: ISO/IEC 9899:1990, 6.1.4 (string literals).
use Rattle.std.specs.Prelude.{◌≡◌, ℕ, ◌+◌, true, Some, List, [], ◌∷◌, ◌++◌, flat_map, slice_get}
use Rattle.objects.specs.Bytes.{known_bytes}
use Rattle.op_forest.specs.declared.lowered.LoweredObject.{LoweredObject}
use Rattle.op_forest.specs.Lowered.{LoweredUnit}
use Rattle.forests.specs.Units.{bytes_in}

-- The object at a place holds a text: its bytes and a null; and it may not be written.
pub record IsTextAt (l : LoweredUnit) (place : ℕ) (text : List ℕ) : Type 0 where
  pub object : LoweredObject
  pub there : slice_get l.objects place ≡ Some object
  pub constant : object.constant ≡ true
  pub holds : flat_map (bytes_in l) object.items ≡ known_bytes (text ++ 0 ∷ [])

-- so does one for each of these texts, from a place on
abbrev pub HasTexts : LoweredUnit → ℕ → List (List ℕ) → Type 0
HasTexts l first texts = (n : ℕ) (text : List ℕ) → slice_get texts n ≡ Some text → IsTextAt l (first + n) text
