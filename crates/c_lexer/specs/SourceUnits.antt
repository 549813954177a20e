-- Which unit of C's grammar a source denotes.
-- Source: C89 2.1.1.2 and 3.7.
use Rattle.std.specs.Prelude.{◌≡◌, ◌-◌, ℕ, None, List, [], ◌∷◌, take, drop}
use Rattle.c_ast.specs.declared.class.Class.{Class}
use Rattle.c_ast.specs.declared.class.Class.TheVariants as class
use Rattle.c_ast.specs.Lexemes.{Lexeme, Name, Keyword, Integer, Character, Text, Sign, Placed}
use Rattle.c_ast.specs.Trees.{UnitTree}
use Rattle.c_ast.specs.Spell.{Denotes}
use Rattle.c_lexer.specs.declared.token.Token.{Token}
use Rattle.c_lexer.specs.Texts.{TextBytes}
use Rattle.c_lexer.specs.Tokens.{first_place, AreTokens}

-- the bytes of a token
abbrev pub bytes_of : List ℕ → Token → List ℕ
bytes_of source t = take (t.end - t.start) (drop t.start source)

-- what a token of the class is to the grammar: a name has its bytes, and a string literal those that it denotes
abbrev pub IsLexeme : Class → List ℕ → Token → Lexeme → Type 0
IsLexeme class.Name source t l = l ≡ Name (bytes_of source t)
IsLexeme (class.Keyword k) source t l = l ≡ Keyword k
IsLexeme (class.Integer v kind) source t l = l ≡ Integer v kind
IsLexeme (class.Character v) source t l = l ≡ Character v
IsLexeme class.Text source t l = (bytes : List ℕ) × TextBytes source t bytes × (l ≡ Text bytes)
IsLexeme (class.Sign k) source t l = l ≡ Sign k

-- the tokens, one for one, each on its line
abbrev pub AreLexemes : List ℕ → List Token → List Placed → Type 0
AreLexemes source [] [] = Unit {0}
AreLexemes source [] (p ∷ ps) = ⊥
AreLexemes source (t ∷ ts) [] = ⊥
AreLexemes source (t ∷ ts) (p ∷ ps) = IsLexeme t.class source t p.lexeme × (p.line ≡ t.line) × AreLexemes source ts ps

-- the source is cut to its end, and its tokens denote the unit
pub record DenotesUnit (source : List ℕ) (u : UnitTree) : Type 0 where
  pub tokens : List Token
  pub placed : List Placed
  pub cut : AreTokens source first_place tokens None
  pub are : AreLexemes source tokens placed
  pub denotes : Denotes placed u
