-- The tokens of a line of assembly, and the bytes of each.
use Rattle.std.specs.Prelude.{◌≡◌, ℕ, Bool, List, [], ◌∷◌, map, false}
use Rattle.lcc_text.specs.declared.class.Class.TheVariants.{Digit}
use Rattle.lcc_text.specs.Classes.{in_class, AllIn, StartsIn}
use Rattle.asm_lines.specs.declared.class.AsmClass.TheVariants.{Symbol, HexDigit}
use Rattle.asm_lines.specs.Classes.{in_asm}
use Rattle.asm_lines.specs.declared.token.Kind.{Kind}
use Rattle.asm_lines.specs.declared.token.Kind.TheVariants as kind
use Rattle.asm_lines.specs.declared.token.Token.{Token}

-- A hexadecimal number's digits stand behind `0x`, a register's name behind `$`. Where no token begins is Wrong.
pub data Tok : Type 0 where
  Word : (name : List ℕ) → Tok
  Decimal : (digits : List ℕ) → Tok
  Hexadecimal : (digits : List ℕ) → Tok
  Dollar : (name : List ℕ) → Tok
  Colon : Tok
  Comma : Tok
  Open : Tok
  Close : Tok
  Plus : Tok
  Minus : Tok
  Wrong : Tok

-- a token, and whether blanks stand before it
pub record Spaced : Type 0 where
  pub tok : Tok
  pub is_spaced : Bool

abbrev pub tok_of : Kind → List ℕ → Tok
tok_of kind.Word b = Word b
tok_of kind.Decimal b = Decimal b
tok_of kind.Hexadecimal b = Hexadecimal b
tok_of kind.Dollar b = Dollar b
tok_of kind.Colon b = Colon
tok_of kind.Comma b = Comma
tok_of kind.Open b = Open
tok_of kind.Close b = Close
tok_of kind.Plus b = Plus
tok_of kind.Minus b = Minus
tok_of kind.Bad b = Wrong

abbrev pub view : Token → Spaced
view t = record { tok = tok_of t.kind t.text.now; is_spaced = t.is_spaced }

abbrev pub views : List Token → List Spaced
views ts = map view ts

abbrev pub text_of : Tok → List ℕ
text_of (Word b) = b
text_of (Decimal d) = d
text_of (Hexadecimal d) = 48 ∷ (120 ∷ d)
text_of (Dollar b) = 36 ∷ b
text_of Colon = 58 ∷ []
text_of Comma = 44 ∷ []
text_of Open = 40 ∷ []
text_of Close = 41 ∷ []
text_of Plus = 43 ∷ []
text_of Minus = 45 ∷ []
text_of Wrong = []

-- a name's first byte is no digit
abbrev pub IsName : List ℕ → Type 0
IsName [] = ⊥
IsName (b ∷ bs) = (in_class Digit b ≡ false) × AllIn (in_asm Symbol) (b ∷ bs)

abbrev pub IsToken : Tok → Type 0
IsToken (Word b) = IsName b
IsToken (Decimal d) = StartsIn (in_class Digit) d × AllIn (in_class Digit) d
IsToken (Hexadecimal d) = StartsIn (in_asm HexDigit) d × AllIn (in_asm HexDigit) d
IsToken (Dollar b) = StartsIn (in_asm Symbol) b × AllIn (in_asm Symbol) b
IsToken Wrong = ⊥
IsToken t = Unit {0}
