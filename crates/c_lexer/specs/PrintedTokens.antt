-- That a printed unit is read again.
-- Source: C89 3.1.
use Rattle.std.specs.Prelude.{◌≡◌, nat_le, ℕ, true, None, List, [], ◌∷◌}
use Rattle.c_ast.specs.Lexemes.{Placed}
use Rattle.c_ast.specs.Marks.{lexemes}
use Rattle.c_ast.specs.Printed.{printed}
use Rattle.c_ast.specs.Spell.{spell}
use Rattle.c_ast.specs.Trees.{UnitTree}
use Rattle.c_lexer.specs.declared.token.Token.{Token}
use Rattle.c_lexer.specs.Tokens.{first_place, AreTokens}
use Rattle.c_lexer.specs.SourceUnits.{AreLexemes}

-- each is a byte
abbrev pub AreBytes : List ℕ → Type 0
AreBytes [] = Unit {0}
AreBytes (b ∷ bs) = (nat_le b 255 ≡ true) × AreBytes bs

-- the printed text is cut to its end, into tokens with the classes, names and texts of the spelling
pub record IsReadAgain (u : UnitTree) : Type 0 where
  pub tokens : List Token
  pub placed : List Placed
  pub cut : AreTokens (printed u) first_place tokens None
  pub are : AreLexemes (printed u) tokens placed
  pub spelled : lexemes placed ≡ spell u
