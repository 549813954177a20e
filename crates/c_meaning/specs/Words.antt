-- Which types the words among specifiers form, each list in any order.
-- Source: C89 3.5.2. A list without a word is int.
use Rattle.std.specs.Prelude.{ℕ, zero, suc, ◌+◌, ◌==◌, ◌&&◌, Bool, true, Option, Some, None, List, [], ◌∷◌, if◌then◌else◌}
use Rattle.c_ast.specs.declared.specifier.BasicType.{BasicType}
use Rattle.c_ast.specs.declared.specifier.BasicType.TheVariants as word
use Rattle.c_types.specs.CType.{Basic, Void, Char, SignedChar, UnsignedChar, Short, UnsignedShort, Int, Unsigned, Long, UnsignedLong}

pub record Worded : Type 0 where
  pub words : List BasicType
  pub means : Basic

abbrev words : List BasicType → Basic → Worded
words ws means = record { words = ws; means = means }

abbrev pub table : List Worded
table =
    words (word.Void ∷ []) Void ∷
    words (word.Char ∷ []) Char ∷
    words (word.Signed ∷ word.Char ∷ []) SignedChar ∷
    words (word.Unsigned ∷ word.Char ∷ []) UnsignedChar ∷
    words (word.Short ∷ []) Short ∷
    words (word.Signed ∷ word.Short ∷ []) Short ∷
    words (word.Short ∷ word.Int ∷ []) Short ∷
    words (word.Signed ∷ word.Short ∷ word.Int ∷ []) Short ∷
    words (word.Unsigned ∷ word.Short ∷ []) UnsignedShort ∷
    words (word.Unsigned ∷ word.Short ∷ word.Int ∷ []) UnsignedShort ∷
    words [] Int ∷
    words (word.Int ∷ []) Int ∷
    words (word.Signed ∷ []) Int ∷
    words (word.Signed ∷ word.Int ∷ []) Int ∷
    words (word.Unsigned ∷ []) Unsigned ∷
    words (word.Unsigned ∷ word.Int ∷ []) Unsigned ∷
    words (word.Long ∷ []) Long ∷
    words (word.Signed ∷ word.Long ∷ []) Long ∷
    words (word.Long ∷ word.Int ∷ []) Long ∷
    words (word.Signed ∷ word.Long ∷ word.Int ∷ []) Long ∷
    words (word.Unsigned ∷ word.Long ∷ []) UnsignedLong ∷
    words (word.Unsigned ∷ word.Long ∷ word.Int ∷ []) UnsignedLong ∷ []

abbrev pub place_of : BasicType → ℕ
place_of word.Void = 0
place_of word.Char = 1
place_of word.Short = 2
place_of word.Int = 3
place_of word.Long = 4
place_of word.Signed = 5
place_of word.Unsigned = 6
place_of word.Float = 7
place_of word.Double = 8

abbrev pub count : ℕ → List BasicType → ℕ
count n [] = 0
count n (w ∷ ws) = (if place_of w == n then 1 else 0) + count n ws

-- each word of the first nine stands in both as often
abbrev pub are_same_below : ℕ → List BasicType → List BasicType → Bool
are_same_below zero ws vs = true
are_same_below (suc n) ws vs = (count n ws == count n vs) && are_same_below n ws vs

abbrev pub are_same : List BasicType → List BasicType → Bool
are_same ws vs = are_same_below 9 ws vs

abbrev pub meant_in : List Worded → List BasicType → Option Basic
meant_in [] ws = None
meant_in (t ∷ ts) ws = if are_same ws t.words then Some t.means else meant_in ts ws

-- the type of a list of words; None where they form none
abbrev pub meant : List BasicType → Option Basic
meant ws = meant_in table ws
