-- Why a source denotes no unit, or which fault it has before it.
-- Source: C89 2.1.1.2 and 3.7.
use Rattle.std.specs.Prelude.{◌≡◌, List, ℕ, None, Some}
use Rattle.c_ast.specs.Trees.{UnitTree}
use Rattle.c_lexer.specs.declared.token.Token.{Token}
use Rattle.c_lexer.specs.Tokens.{first_place, AreTokens}
use Rattle.c_lexer.specs.SourceUnits.{DenotesUnit}
use Rattle.c_expr.specs.State.{line_at}
use Rattle.c_expr.specs.declared.syntax_fault.SyntaxFault.{SyntaxFault}
use Rattle.c_expr.specs.declared.syntax_fault.SyntaxFault.TheVariants.{NoParse, Memory, Lex}

-- the source is cut into tokens that denote no unit, with the line of one of them, or the first where there is none; an
-- allocation was refused; or the source can't be cut
abbrev pub Refuses : List ℕ → SyntaxFault → Type 0
Refuses source (NoParse line) = (ts : List Token) × AreTokens source first_place ts None × ((u : UnitTree) → DenotesUnit source u → ⊥) × (place : ℕ) × (line ≡ line_at ts place)
Refuses source Memory = Unit {0}
Refuses source (Lex fault) = (ts : List Token) × AreTokens source first_place ts (Some fault)
