-- What stands for a value or for bytes does so still where further objects have ranges.
use Rattle.std.specs.Prelude.{◌≡◌, ℕ, Bool, true, false, ◌==◌, Option, Some, None, List, [], ◌∷◌, if◌then◌else◌}
use Rattle.std.proofs.Common.{refl, ap, ◌∙◌}
use Rattle.std.proofs.lemmas.Bool.{eqb-true, eq-eqb}
use Rattle.objects.specs.declared.byte.Byte.{Byte}
use Rattle.objects.specs.declared.byte.Byte.TheVariants.{Bits, Part}
use Rattle.objects.specs.declared.value.Value.{Value}
use Rattle.objects.specs.declared.value.Value.TheVariants.{Number, Pointer, Function}
use Rattle.forests.specs.Words.{Word}
use Rattle.c_match.specs.Ranges.{Range, Map, Grown, with_range}
use Rattle.c_match.specs.Values.{IsValue}
use Rattle.c_match.specs.Bytes.{IsByteOf, AreBytesOf}

pub value_grows : (map more : Map) (v : Value) (w : Word) → Grown map more → IsValue map v w → IsValue more v w
value_grows map more (Number n) w g h = h
value_grows map more (Pointer object offset) w g h = (h.0, g object.made h.0 h.1, h.2)
value_grows map more (Function f) w g h = h

byte_grows : (map more : Map) (b : Byte Value) (c : Byte Word) → Grown map more → IsByteOf map b c → IsByteOf more b c
byte_grows map more (Bits known value) (Bits mask bits) g h = h
byte_grows map more (Bits known value) (Part w place) g h = h
byte_grows map more (Part v place) (Part w k) g h = (value_grows map more v w g h.0, h.1)
byte_grows map more (Part v place) (Bits mask bits) g h = absurd h

pub bytes_grow : (map more : Map) (bs : List (Byte Value)) (cs : List (Byte Word)) → Grown map more → AreBytesOf map bs cs → AreBytesOf more bs cs
bytes_grow map more [] cs g h = tt
bytes_grow map more (b ∷ bs) [] g h = absurd h
bytes_grow map more (b ∷ bs) (c ∷ cs) g h = (byte_grows map more b c g h.0, bytes_grow map more bs cs g h.1)

-- ---- maps

pub grown_refl : (map : Map) → Grown map map
grown_refl map m r e = e

pub grown_trans : (map more most : Map) → Grown map more → Grown more most → Grown map most
grown_trans map more most g h m r e = h m r (g m r e)

-- the range that was given
pub range_is : (made : ℕ) (r : Range) (map : Map) → with_range made r map made ≡ Some r
range_is made r map = ap (λ (b : Bool). if b then Some r else map made) (eq-eqb made made refl)

if_other : (b : Bool) (m made : ℕ) (o p : Option Range) → (m == made) ≡ b → (m ≡ made → ⊥) → (if b then o else p) ≡ p
if_other true m made o p e h = absurd (h (eqb-true m made e))
if_other false m made o p e h = refl

-- other objects have theirs
pub range_elsewhere : (made : ℕ) (r : Range) (map : Map) (m : ℕ) → (m ≡ made → ⊥) → with_range made r map m ≡ map m
range_elsewhere made r map m h = if_other (m == made) m made (Some r) (map m) refl h

none_is : (m made : ℕ) (r : Range) (map : Map) → map made ≡ None → map m ≡ Some r → m ≡ made → ⊥
none_is m made r map none some e = let never : ⊥ = (let f : map m ≡ map made = ap map e in cc) in never

-- an object that had none gets one
pub range_grows : (made : ℕ) (r : Range) (map : Map) → map made ≡ None → Grown map (with_range made r map)
range_grows made r map none m s e = range_elsewhere made r map m (none_is m made s map none e) ∙ e
