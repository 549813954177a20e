-- What holds of words and bytes that stand for those of C.
use Rattle.std.specs.Prelude.{◌≡◌, List, length, None}
use Rattle.lcc_base.specs.declared.order.Order.{Order}
use Rattle.objects.specs.declared.byte.Byte.{Byte}
use Rattle.objects.specs.declared.value.Value.{Value}
use Rattle.objects.specs.declared.width.Scalar.{Scalar}
use Rattle.objects.specs.declared.width.Width.TheVariants.{Four}
use Rattle.objects.specs.Conversions.{as_type}
use Rattle.objects.specs.Scalars.{scalar_bytes, scalar_cause, scalar_value}
use Rattle.forests.specs.Sound.{AreSoundBytes}
use Rattle.forests.specs.WordBytes.{word_bytes, word_in}
use Rattle.forests.specs.Words.{Word}
use Rattle.c_match.specs.Ranges.{Map, Grown}
use Rattle.c_match.specs.Values.{IsValue}
use Rattle.c_match.specs.Bytes.{AreBytesOf}

-- what stands for a value, or for bytes, does so still where further objects have ranges
abbrev pub ValuesGrow : Type 0
ValuesGrow = (map more : Map) (v : Value) (w : Word) → Grown map more → IsValue map v w → IsValue more v w

abbrev pub BytesGrow : Type 0
BytesGrow = (map more : Map) (bs : List (Byte Value)) (cs : List (Byte Word)) → Grown map more → AreBytesOf map bs cs → AreBytesOf more bs cs

-- the bytes of a word stand for those of the value that it stands for
abbrev pub WordsHaveBytes : Type 0
WordsHaveBytes = (map : Map) (order : Order) (v : Value) (w : Word) → IsValue map v w → AreBytesOf map (scalar_bytes order Four v) (word_bytes order w)

-- Four bytes that are a scalar of C, and bytes that stand for them: the word that these are stands for its value, of each type
-- of four bytes.
abbrev pub WordsAreRead : Type 0
WordsAreRead =
    (map : Map) (order : Order) (s : Scalar) (bs : List (Byte Value)) (cs : List (Byte Word)) → AreBytesOf map bs cs → AreSoundBytes cs
    → length bs ≡ 4 → length cs ≡ 4 → s.width ≡ Four → scalar_cause order bs ≡ None → IsValue map (as_type s (scalar_value order bs)) (word_in order cs)
