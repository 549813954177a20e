use Rattle.std.proofs.Common.{List, subst, sym}
use Rattle.c_ast.specs.Lexemes.{Placed}
use Rattle.c_ast.specs.Spell.{Denotes}
use Rattle.c_lexer.specs.declared.token.Token.{Token}
use Rattle.c_lexer.specs.SourceUnits.{AreLexemes}
use Rattle.c_lexer.proofs.OneCut.{one_list}
use Rattle.c_lexer.proofs.OneUnit.{one_lexemes}
use Rattle.c_lexer.specs.Tokens.{first_place}
use Rattle.std.proofs.Common.{None}
use Rattle.c_lexer.proofs.laws.one_source_unit.Goals as goal

pub returns : goal.returns
returns c = λ source u v d e.
    let P : List Token → Type 0 = λ ts. AreLexemes source ts e.placed in
    let are : AreLexemes source d.tokens e.placed = subst P (sym (one_list source first_place d.tokens e.tokens None None d.cut e.cut).0) e.are in
    let Q : List Placed → Type 0 = λ ps. Denotes ps v in
    c.one_unit.ensures d.placed u v d.denotes (subst Q (sym (one_lexemes source d.tokens d.placed e.placed d.are are)) e.denotes)
