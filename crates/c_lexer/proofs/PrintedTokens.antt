-- A printed unit is read again.
use Rattle.std.proofs.Common.{ℕ, None, List, [], ◌∷◌, subst}
use Rattle.c_ast.specs.Lexemes.{Lexeme, Name, Keyword, Integer, Character, Text, Sign}
use Rattle.c_ast.specs.Printed.{lexeme_text}
use Rattle.c_ast.specs.Spell.{spell}
use Rattle.c_ast.specs.Trees.{UnitTree}
use Rattle.c_lexer.specs.Tokens.{first_place}
use Rattle.c_lexer.specs.SourceUnits.{DenotesUnit}
use Rattle.c_lexer.specs.PrintedTokens.{AreBytes, IsReadAgain}
use Rattle.c_lexer.proofs.GoodLexemes.{IsGood, AreGood, good_lexemes}
use Rattle.c_lexer.proofs.ReadLexemes.{IsEnd, IsRead, AreRead, cut_spaced}
use Rattle.c_lexer.proofs.ReadCharacters.{read_constant}
use Rattle.c_lexer.proofs.ReadIntegers.{read_integer}
use Rattle.c_lexer.proofs.ReadTexts.{read_text}
use Rattle.c_lexer.proofs.ReadSigns.{read_sign}
use Rattle.c_lexer.proofs.ReadWords.{read_name, read_keyword}

read_one : (l : Lexeme) (behind : List ℕ) → IsGood l → IsEnd behind → IsRead l (lexeme_text l) behind
read_one (Name n) behind g e = read_name n behind g.0 g.1 e
read_one (Keyword k) behind (w, h, f) e = read_keyword k w behind h f e
read_one (Integer v kind) behind g e = read_integer v kind behind g e
read_one (Character v) behind (b, h, f) e = read_constant v b behind h f
read_one (Text bs) behind g e = read_text bs behind g
read_one (Sign k) behind (x, f) e = read_sign k x behind f e

read_all : (ls : List Lexeme) → AreGood ls → AreRead ls
read_all [] g = tt
read_all (l ∷ ls) g = ((λ behind e. read_one l behind g.0 e), read_all ls g.1)

pub printed_again : (source : List ℕ) (u : UnitTree) → AreBytes source → DenotesUnit source u → IsReadAgain u
printed_again source u b d =
    let good = subst AreGood d.denotes.spelled (good_lexemes source first_place d.tokens d.placed None b d.cut d.are) in
    let c = cut_spaced (spell u) (read_all (spell u) good) in
    record { tokens = c.tokens; placed = c.placed; cut = c.cut; are = c.are; spelled = c.spelled }
