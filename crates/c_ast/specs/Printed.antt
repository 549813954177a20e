-- The text of tokens: each token's own, with one blank between. Integer constants are decimal with the suffix of their type;
-- a character stands for itself where it may, and is an octal escape of three digits elsewhere.
-- Source: C89 3.1.
use Rattle.std.specs.Prelude.{◌+◌, ◌/◌, ◌%◌, ◌==◌, ◌&&◌, not, nat_le, if◌then◌else◌, ℕ, Bool, Option, Some, None, List, [], ◌∷◌, ◌++◌, flat_map, codes, decimal, slice_get}
use Rattle.std.specs.Int.{cast_unsigned, w32}
use Rattle.c_ast.specs.declared.class.IntKind.{IntKind}
use Rattle.c_ast.specs.declared.class.IntKind.TheVariants.{Int, Unsigned, Long, UnsignedLong}
use Rattle.c_ast.specs.Keywords.{keywords}
use Rattle.c_ast.specs.Signs.{signs}
use Rattle.c_ast.specs.Lexemes.{Lexeme, Name, Keyword, Integer, Character, Text, Sign}
use Rattle.c_ast.specs.Trees.{UnitTree}
use Rattle.c_ast.specs.Spell.{spell}

-- the text at a place of a list
abbrev pub text_at : Option (List ℕ) → List ℕ
text_at None = []
text_at (Some text) = text

abbrev pub kind_text : IntKind → List ℕ
kind_text Int = []
kind_text Unsigned = codes "u"
kind_text Long = codes "l"
kind_text UnsignedLong = codes "ul"

-- printable, and neither a quote nor a backslash
abbrev pub stands_alone : ℕ → Bool
stands_alone b = nat_le 32 b && (nat_le b 126 && (not (b == 34) && (not (b == 39) && not (b == 92))))

abbrev pub octal_escape : ℕ → List ℕ
octal_escape b = 92 ∷ (48 + b / 64) ∷ (48 + b / 8 % 8) ∷ (48 + b % 8) ∷ []

abbrev pub character_text : ℕ → List ℕ
character_text b = if stands_alone b then b ∷ [] else octal_escape b

abbrev pub lexeme_text : Lexeme → List ℕ
lexeme_text (Name n) = n
lexeme_text (Keyword k) = text_at (slice_get keywords k)
lexeme_text (Integer v kind) = decimal v ++ kind_text kind
lexeme_text (Character v) = codes "'" ++ character_text (cast_unsigned w32 v % 256) ++ codes "'"
lexeme_text (Text bs) = codes "\"" ++ flat_map character_text bs ++ codes "\""
lexeme_text (Sign k) = text_at (slice_get signs k)

-- a token with a blank before it
unfoldable pub token_text : Lexeme → List ℕ
token_text l = 32 ∷ lexeme_text l

-- tokens with one blank between
abbrev pub spaced : List Lexeme → List ℕ
spaced [] = []
spaced (l ∷ ls) = lexeme_text l ++ flat_map token_text ls

abbrev pub printed : UnitTree → List ℕ
printed u = spaced (spell u)
