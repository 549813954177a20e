-- What the tokens of a line of declarations add to what is known, and which of them can't be added.
use Rattle.std.specs.Prelude.{◌≡◌, ◌≤◌, ◌<◌, ◌⊎◌, ℕ, ◌+◌, Option, Some, None, List, [], ◌∷◌, ◌++◌, length, map, take, slice_get}
use Rattle.lcc_base.specs.declared.which.Which.TheVariants as which
use Rattle.lcc_text.specs.Decimal.{value_of}
use Rattle.lcc_text.specs.Names.{bytes_of}
use Rattle.lburg_lines.specs.Tokens.{Tok, Word, Number}
use Rattle.lburg_lines.specs.Grammar.{AreLineOf}
use Rattle.lburg_lines.specs.Sections.{TokenLine}
use Rattle.lburg_faults.specs.declared.known.Known.{Known}
use Rattle.lburg_faults.specs.declared.line_fault.LineFault.{LineFault}
use Rattle.lburg_faults.specs.declared.line_fault.LineFault.TheVariants as fault
use Rattle.lburg_faults.specs.declared.found.Found.{Found}
use Rattle.lburg_faults.specs.Lines.{InDeclarations, IsRules}
use Rattle.lburg_faults.specs.Terminals.{Among}
use Rattle.lburg_faults.specs.Setting.{Setting}
use Rattle.lburg_faults.specs.Telling.{TextDeclares}
use Rattle.lburg_faults.specs.Grammatical.{IsBegun}
use Rattle.lburg_faults.specs.Knowing.{Knows}
use Rattle.lburg_faults.specs.Scans.{Scanned, DeclarationRows}

-- the names among the tokens
abbrev pub names_among : List Tok → List (List ℕ)
names_among [] = []
names_among (Word n ∷ ts) = n ∷ names_among ts
names_among (t ∷ ts) = names_among ts

-- the numbers among the tokens
abbrev pub numbers_among : List Tok → List ℕ
numbers_among [] = []
numbers_among (Number d ∷ ts) = value_of d ∷ numbers_among ts
numbers_among (t ∷ ts) = numbers_among ts

-- the token has the fault behind these names and numbers of terminals
abbrev pub TokenFails : List (List ℕ) → List ℕ → Tok → LineFault → Type 0
TokenFails names numbers (Word name) f = ((f ≡ fault.DoubleTerminal) × Among name names) ⊎ ((f ≡ fault.Limit which.Terminals) × (Among name names → ⊥) × (1023 ≤ length names))
TokenFails names numbers (Number digits) f = ((f ≡ fault.DoubleTerminal) × Among (value_of digits) numbers × (value_of digits ≤ 2147483647)) ⊎ ((f ≡ fault.Limit which.Number) × (2147483647 < value_of digits))
TokenFails names numbers token f = ⊥

-- the token has none
abbrev pub TokenFits : List (List ℕ) → List ℕ → Tok → Type 0
TokenFits names numbers (Word name) = (Among name names → ⊥) × (length names < 1023)
TokenFits names numbers (Number digits) = (Among (value_of digits) numbers → ⊥) × (value_of digits ≤ 2147483647)
TokenFits names numbers token = Unit {0}

-- the token at the place has the fault behind these names and numbers and those of the tokens before it
abbrev pub FailsAt : List (List ℕ) → List ℕ → List Tok → ℕ → LineFault → Type 0
FailsAt names numbers tokens place fault =
    (token : Tok) × (slice_get tokens place ≡ Some token) × TokenFails (names ++ names_among (take place tokens)) (numbers ++ numbers_among (take place tokens)) token fault

-- no token before the bound has one
abbrev pub FitBefore : List (List ℕ) → List ℕ → List Tok → ℕ → Type 0
FitBefore names numbers tokens bound =
    (place : ℕ) (token : Tok) → place < bound → slice_get tokens place ≡ Some token → TokenFits (names ++ names_among (take place tokens)) (numbers ++ numbers_among (take place tokens)) token

-- the first token before the bound that has a fault
pub record FailsFirst (names : List (List ℕ)) (numbers : List ℕ) (tokens : List Tok) (bound : ℕ) (found : Found) : Type 0 where
  pub within : found.place < bound
  pub stands : FailsAt names numbers tokens found.place found.fault
  pub before : FitBefore names numbers tokens found.place

-- the names and numbers of these tokens are added, and nothing else changes
pub record Adds (tokens : List Tok) (old new : Known) : Type 0 where
  pub names : bytes_of new.terminals ≡ bytes_of old.terminals ++ names_among tokens
  pub numbers : new.numbers.keys ≡ old.numbers.keys ++ numbers_among tokens
  pub arities : new.arities.items ≡ old.arities.items ++ map (λ _. None) (names_among tokens)
  pub nonterminals : new.nonterminals ≡ old.nonterminals
  pub start : new.start ≡ old.start
  pub rules : new.rules ≡ old.rules

-- what was looked for before the bound, in a line of declarations of the text
abbrev pub ScansLine : Known → List ℕ → List Tok → ℕ → Option Found → Type 0
ScansLine old text tokens bound f =
    (s : Setting) (l : TokenLine) → Knows s.terminals s.before old → TextDeclares text s.terminals → InDeclarations l.section → l.tokens ≡ tokens → IsBegun l bound → Scanned DeclarationRows s l bound f

-- the whole line was noted, which has this number
abbrev pub NotesWhole : Known → Known → List ℕ → ℕ → List Tok → ℕ → Type 0
NotesWhole old new text number tokens bound =
    (s : Setting) (l : TokenLine) → Knows s.terminals s.before old → TextDeclares text s.terminals → ((i : ℕ) (k : TokenLine) → slice_get s.before i ≡ Some k → IsRules k → ⊥)
    → number ≡ length s.before + 1 → InDeclarations l.section → l.tokens ≡ tokens → AreLineOf l.section l.tokens → bound ≡ length l.tokens → Knows s.terminals (s.before ++ l ∷ []) new
