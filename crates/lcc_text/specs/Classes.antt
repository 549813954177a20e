-- Kinds of bytes. Letters and digits are ASCII's; blanks are C's white space but for the line feed.
use Rattle.std.specs.Prelude.{◌≡◌, true, false, ℕ, List, [], ◌∷◌, Bool, ◌||◌, ◌&&◌, not, nat_le, ◌==◌}
use Rattle.std.specs.Char.{is_ascii_digit, is_ascii_alphabetic}
use Rattle.lcc_text.specs.declared.class.Class.{Class}
use Rattle.lcc_text.specs.declared.class.Class.TheVariants.{Blank, Letter, Digit, Name, Text}

abbrev pub in_class : Class → ℕ → Bool
in_class Blank b = b == 32 || ((nat_le 9 b && nat_le b 13) && not (b == 10))
in_class Letter b = is_ascii_alphabetic b
in_class Digit b = is_ascii_digit b
in_class Name b = (is_ascii_alphabetic b || is_ascii_digit b) || b == 95
in_class Text b = (not (b == 34) && not (b == 10)) && not (b == 92)

-- ---- bytes of a class, which is given by its test

-- each byte is in the class
abbrev pub AllIn : (ℕ → Bool) → List ℕ → Type 0
AllIn class [] = Unit {0}
AllIn class (b ∷ bs) = (class b ≡ true) × AllIn class bs

-- the first byte is there, and in the class
abbrev pub StartsIn : (ℕ → Bool) → List ℕ → Type 0
StartsIn class [] = ⊥
StartsIn class (b ∷ bs) = class b ≡ true

-- the first byte isn't in the class, or there is none
abbrev pub StopsIn : (ℕ → Bool) → List ℕ → Type 0
StopsIn class [] = Unit {0}
StopsIn class (b ∷ bs) = class b ≡ false
