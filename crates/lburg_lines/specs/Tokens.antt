-- The tokens of a line, and the bytes of each.
-- Source: C. W. Fraser and D. R. Hanson, A Retargetable C Compiler, chapter 14 (lburg's input).
use Rattle.std.specs.Prelude.{◌≡◌, ℕ, ◌==◌, ◌||◌, ◌&&◌, not, Bool, true, List, [], ◌∷◌, ◌++◌, map, if◌then◌else◌}
use Rattle.lcc_text.specs.declared.class.Class.TheVariants.{Letter, Digit, Name}
use Rattle.lcc_text.specs.Classes.{in_class, AllIn, StartsIn}
use Rattle.lburg_lines.specs.declared.token.Sign.{Sign}
use Rattle.lburg_lines.specs.declared.token.Sign.TheVariants.{Open, Close, Comma, Colon, Equals, OpenBracket, CloseBracket}
use Rattle.lburg_lines.specs.declared.token.Border.{Border}
use Rattle.lburg_lines.specs.declared.token.Token.{Token}
use Rattle.lburg_lines.specs.declared.token.Token.TheVariants as token

pub data Tok : Type 0 where
  Word : (bytes : List ℕ) → Tok
  Number : (digits : List ℕ) → Tok
  Negative : (digits : List ℕ) → Tok
  Template : (bytes : List ℕ) → Tok
  Keyword : (bytes : List ℕ) → Tok
  Mark : (sign : Sign) → Tok
  Bound : (border : Border) → Tok
  Wrong : Tok

abbrev pub view : Token → Tok
view (token.Name b) = Word b.now
view (token.Digits b) = Number b.now
view (token.Negative b) = Negative b.now
view (token.Text b) = Template b.now
view (token.Directive b) = Keyword b.now
view (token.Sign s) = Mark s
view (token.Border b) = Bound b
view token.Bad = Wrong

abbrev pub views : List Token → List Tok
views ts = map view ts

abbrev pub sign_code : Sign → ℕ
sign_code Open = 40
sign_code Close = 41
sign_code Comma = 44
sign_code Colon = 58
sign_code Equals = 61
sign_code OpenBracket = 91
sign_code CloseBracket = 93

-- what may stand between a template's quotes: anything but a quote and a line feed
abbrev pub is_quoted : ℕ → Bool
is_quoted b = not (b == 34) && not (b == 10)

-- a backslash stands before `n`, `t` or a backslash, for a line end, a tab and a backslash
abbrev pub is_escape : ℕ → Bool
is_escape b = (b == 110 || b == 116) || b == 92

-- each backslash begins an escape
abbrev pub escapes_well : List ℕ → Bool
escapes_well [] = true
escapes_well (b ∷ []) = not (b == 92)
escapes_well (b ∷ c ∷ rest) = if b == 92 then is_escape c && escapes_well rest else escapes_well (c ∷ rest)

-- a template stands between quotes, a keyword behind a percent sign
abbrev pub text_of : Tok → List ℕ
text_of (Word b) = b
text_of (Number d) = d
text_of (Negative d) = 45 ∷ d
text_of (Template b) = 34 ∷ (b ++ 34 ∷ [])
text_of (Keyword b) = 37 ∷ b
text_of (Mark s) = sign_code s ∷ []
text_of (Bound b) = []
text_of Wrong = []

-- Borders are no tokens here: they stand at a line's first byte alone.
abbrev pub IsToken : Tok → Type 0
IsToken (Word b) = StartsIn (in_class Letter) b × AllIn (in_class Name) b
IsToken (Number d) = StartsIn (in_class Digit) d × AllIn (in_class Digit) d
IsToken (Negative d) = StartsIn (in_class Digit) d × AllIn (in_class Digit) d
IsToken (Template b) = AllIn is_quoted b × (escapes_well b ≡ true)
IsToken (Keyword b) = StartsIn (in_class Letter) b × AllIn (in_class Name) b
IsToken (Mark s) = Unit {0}
IsToken (Bound b) = ⊥
IsToken Wrong = ⊥
