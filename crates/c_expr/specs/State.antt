-- What a parser is: a source with its tokens, how many of them were taken, the names in force, and the fault that was answered,
-- if any.
-- Source: C89 2.1.1.2 and 3.1.2.1.
use Rattle.std.specs.Prelude.{◌≡◌, ◌≤◌, ◌+◌, ◌-◌, min, ℕ, Option, None, Some, List, length, slice_get, drop}
use Rattle.c_ast.specs.InForce.{InForce}
use Rattle.c_lexer.specs.declared.token.Token.{Token}
use Rattle.c_lexer.specs.Tokens.{first_place, AreTokens}
use Rattle.c_lexer.specs.PlacedTokens.{placed}
use Rattle.c_readings.specs.Reading.{State, forget_state}
use Rattle.c_expr.specs.Productions.{Production, IsTaken, Stands}
use Rattle.c_expr.specs.declared.stop.Stop.{Stop}
use Rattle.c_expr.specs.declared.stop.Stop.TheVariants as stop
use Rattle.c_expr.specs.declared.syntax_fault.SyntaxFault.{SyntaxFault}
use Rattle.c_expr.specs.declared.syntax_fault.SyntaxFault.TheVariants.{NoParse, Memory, Lex}

pub record MParser : Type 0 where
  pub source : List ℕ
  pub tokens : List Token
  pub place : ℕ
  pub names : InForce
  pub fault : Option SyntaxFault

abbrev pub line_or_first : Option Token → ℕ
line_or_first None = 1
line_or_first (Some t) = t.line

-- the line of the token at the place, behind the end that of the last token, and the first one where there is none
abbrev pub line_at : List Token → ℕ → ℕ
line_at tokens place = line_or_first (slice_get tokens (min place (length tokens - 1)))

-- the fault behind the tokens of the source, or an allocation was refused
abbrev pub IsUncut : List ℕ → SyntaxFault → Type 0
IsUncut source (NoParse line) = ⊥
IsUncut source Memory = Unit {0}
IsUncut source (Lex fault) = (ts : List Token) × AreTokens source first_place ts (Some fault)

-- what is left
unfoldable pub ahead : MParser → State
ahead p = record { names = p.names; rest = placed p.source (drop p.place p.tokens) }

-- the same where no parameters' names are kept
abbrev pub forgetting : MParser → State
forgetting p = forget_state (ahead p)

-- what a reader that stopped is answered as, at the place that it couldn't pass
abbrev pub IsStopped : List Token → ℕ → Stop → SyntaxFault → Type 0
IsStopped tokens place (stop.NoParse left) (NoParse line) = line ≡ line_at tokens place
IsStopped tokens place (stop.NoParse left) Memory = ⊥
IsStopped tokens place (stop.NoParse left) (Lex fault) = ⊥
IsStopped tokens place stop.Memory (NoParse line) = ⊥
IsStopped tokens place stop.Memory Memory = Unit {0}
IsStopped tokens place stop.Memory (Lex fault) = ⊥

-- a tree of the production that stands before s was taken
pub record Took (P : Production) (s : State) (old : MParser) (x : P.Tree) (new : MParser) : Type 0 where
  pub taken : IsTaken P s x (ahead new)
  pub reads : P.read s ≡ Some (x, ahead new)
  pub before : old.fault ≡ None
  pub further : old.place + P.least ≤ new.place
  pub same : new ≡ record old { place = new.place; names = new.names }

-- why none was taken: an earlier fault is answered again, none stands before s, or an allocation was refused. The fault is kept.
-- Where none stands, the place is from there on that of the token by which nothing goes on, whose line is answered.
pub data Refused (P : Production) (s : State) (old new : MParser) : SyntaxFault → Type 0 where
  Again : (fault : SyntaxFault) → old.fault ≡ Some fault → new ≡ old → Refused P s old new fault
  NoPiece : (line : ℕ) → old.fault ≡ None → (Stands P s → ⊥) → P.read s ≡ None → old.place ≤ new.place → line ≡ line_at old.tokens new.place → new ≡ record old { place = new.place; names = new.names; fault = Some (NoParse line) } → Refused P s old new (NoParse line)
  NoMemory : old.fault ≡ None → old.place ≤ new.place → new ≡ record old { place = new.place; names = new.names; fault = Some Memory } → Refused P s old new Memory
