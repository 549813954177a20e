-- Numbers from -2147483648 to 4294967295, and sums of them modulo 2^32. A number's own minus sign touches its digits and
-- belongs to decimal ones alone; between the numbers of a sum stand plus and minus signs.
use Rattle.std.specs.Prelude.{◌≡◌, ◌≤◌, ℕ, ◌+◌, ◌*◌, ◌-◌, ◌%◌, ◌^◌, nat_le, Bool, true, false, List, [], ◌∷◌, if◌then◌else◌}
use Rattle.lcc_text.specs.Decimal.{value_of}
use Rattle.asm_lines.specs.Tokens.{Tok, Decimal, Hexadecimal, Plus, Minus, Spaced}

-- a hexadecimal digit's value
abbrev pub digit_value : ℕ → ℕ
digit_value b = if nat_le b 57 then b - 48 else (if nat_le b 70 then b - 55 else b - 87)

-- the number of these hexadecimal digits, behind digits of that number
abbrev pub hex_behind : ℕ → List ℕ → ℕ
hex_behind n [] = n
hex_behind n (b ∷ bs) = hex_behind (16 * n + digit_value b) bs

abbrev pub hex_value : List ℕ → ℕ
hex_value digits = hex_behind 0 digits

-- a number as it is written
pub data MNumber : Type 0 where
  Plain : (digits : List ℕ) → MNumber
  Hex : (digits : List ℕ) → MNumber
  Negative : (digits : List ℕ) → MNumber

-- its tokens stand first, and rest behind them
abbrev pub NumberThen : MNumber → List Spaced → List Spaced → Type 0
NumberThen (Plain d) (t ∷ ts) rest = (t.tok ≡ Decimal d) × (ts ≡ rest)
NumberThen (Hex d) (t ∷ ts) rest = (t.tok ≡ Hexadecimal d) × (ts ≡ rest)
NumberThen (Negative d) (m ∷ t ∷ ts) rest = (m.tok ≡ Minus) × (t.tok ≡ Decimal d) × (t.is_spaced ≡ false) × (ts ≡ rest)
NumberThen n ts rest = ⊥

abbrev pub IsWithin : MNumber → Type 0
IsWithin (Plain d) = value_of d ≤ 4294967295
IsWithin (Hex d) = hex_value d ≤ 4294967295
IsWithin (Negative d) = value_of d ≤ 2147483648

-- the number modulo 2^32
abbrev pub word_of : MNumber → ℕ
word_of (Plain d) = value_of d
word_of (Hex d) = hex_value d
word_of (Negative d) = (2 ^ 32 - value_of d) % 2 ^ 32

-- a number stands first that is this modulo 2^32, and rest behind it
abbrev pub IsNumber : List Spaced → ℕ → List Spaced → Type 0
IsNumber ts n rest = (m : MNumber) × NumberThen m ts rest × IsWithin m × (n ≡ word_of m)

-- the number is this one, which isn't negative
abbrev pub IsCount : MNumber → ℕ → Type 0
IsCount (Negative d) n = (value_of d ≡ 0) × (n ≡ 0)
IsCount m n = n ≡ word_of m

-- a number that isn't negative is all there is
abbrev pub CountStands : List Spaced → ℕ → Type 0
CountStands ts n = (m : MNumber) × NumberThen m ts [] × IsWithin m × IsCount m n

-- a sign and a number behind it: whether the sign is a minus, and the number
pub record MLink : Type 0 where
  pub is_minus : Bool
  pub number : MNumber

abbrev pub link_sign : Bool → Tok
link_sign true = Minus
link_sign false = Plus

-- links stand first, and rest behind them
abbrev pub LinksThen : List MLink → List Spaced → List Spaced → Type 0
LinksThen [] ts rest = ts ≡ rest
LinksThen (l ∷ ls) [] rest = ⊥
LinksThen (l ∷ ls) (t ∷ ts) rest = (t.tok ≡ link_sign l.is_minus) × ((mid : List Spaced) × NumberThen l.number ts mid × IsWithin l.number × LinksThen ls mid rest)

abbrev pub joined : Bool → ℕ → ℕ → ℕ
joined false a b = (a + b) % 2 ^ 32
joined true a b = (a + (2 ^ 32 - b)) % 2 ^ 32

-- what the links make of a number
abbrev pub total : ℕ → List MLink → ℕ
total n [] = n
total n (l ∷ ls) = total (joined l.is_minus n (word_of l.number)) ls

-- links stand first that make the second number of the first, and rest behind them
abbrev pub AreLinks : List Spaced → ℕ → ℕ → List Spaced → Type 0
AreLinks ts from n rest = (ls : List MLink) × LinksThen ls ts rest × (n ≡ total from ls)

-- a sum of this value stands first, and rest behind it
abbrev pub IsSum : List Spaced → ℕ → List Spaced → Type 0
IsSum ts n rest = (first : ℕ) × (mid : List Spaced) × IsNumber ts first mid × AreLinks mid first n rest

-- no link stands first
abbrev pub NoLink : List Spaced → Type 0
NoLink [] = Unit {0}
NoLink (t ∷ ts) = (t.tok ≡ Plus → ⊥) × (t.tok ≡ Minus → ⊥)
