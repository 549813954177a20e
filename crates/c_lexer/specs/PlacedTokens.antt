-- Tokens of a source as the grammar sees them.
-- Source: C89 3.1.
use Rattle.std.specs.Prelude.{ℕ, List, [], ◌∷◌}
use Rattle.c_ast.specs.declared.class.Class.{Class}
use Rattle.c_ast.specs.declared.class.Class.TheVariants as class
use Rattle.c_ast.specs.Lexemes.{Lexeme, Name, Keyword, Integer, Character, Text, Sign, Placed}
use Rattle.c_lexer.specs.declared.token.Token.{Token}
use Rattle.c_lexer.specs.SourceUnits.{bytes_of}
use Rattle.c_lexer.specs.Texts.{text_of}

-- what a token of the class is to the grammar: a name has its bytes, and a string literal those that it denotes
abbrev pub lexeme_as : Class → List ℕ → Token → Lexeme
lexeme_as class.Name source t = Name (bytes_of source t)
lexeme_as (class.Keyword k) source t = Keyword k
lexeme_as (class.Integer v kind) source t = Integer v kind
lexeme_as (class.Character v) source t = Character v
lexeme_as class.Text source t = Text (text_of source t)
lexeme_as (class.Sign k) source t = Sign k

abbrev pub placed_of : List ℕ → Token → Placed
placed_of source t = record { lexeme = lexeme_as t.class source t; line = t.line }

-- the tokens, one for one, each on its line
abbrev pub placed : List ℕ → List Token → List Placed
placed source [] = []
placed source (t ∷ ts) = placed_of source t ∷ placed source ts
