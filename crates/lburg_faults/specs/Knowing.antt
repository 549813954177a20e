-- What a reader of lines knows behind some of them, and what a line adds.
use Rattle.std.specs.Prelude.{◌≡◌, ◌≤◌, ◌<◌, ◌⊎◌, ℕ, ◌+◌, Option, Some, None, List, [], ◌∷◌, ◌++◌, length, slice_get}
use Rattle.lcc_text.specs.Names.{bytes_of}
use Rattle.lburg_lines.specs.Tokens.{Tok, Word}
use Rattle.lburg_lines.specs.Grammar.{MLine, IsLine}
use Rattle.lburg_lines.specs.Sections.{TokenLine}
use Rattle.lburg_faults.specs.declared.known.Known.{Known}
use Rattle.lburg_faults.specs.declared.known.StartSymbol.{StartSymbol}
use Rattle.lburg_faults.specs.declared.line_fault.LineFault.{LineFault}
use Rattle.lburg_faults.specs.declared.line_check.LineError.{LineError}
use Rattle.lburg_faults.specs.declared.line_check.LineError.TheVariants.{Memory, Fault}
use Rattle.lburg_faults.specs.Lines.{StartLine}
use Rattle.lburg_faults.specs.Terminals.{Among, declared_in, names_of, numbers_of}
use Rattle.lburg_faults.specs.Mentions.{MentionsAt}
use Rattle.lburg_faults.specs.Limits.{AreDistinct, RuleCount}
use Rattle.lburg_faults.specs.Uses.{IsFirstUse}
use Rattle.lburg_faults.specs.Setting.{Setting}
use Rattle.lburg_faults.specs.LineFaults.{Stands, row_of}

-- the lines mention the name
abbrev pub MentionedIn : List (List ℕ) → List TokenLine → List ℕ → Type 0
MentionedIn terminals lines name = (i p : ℕ) × (k : TokenLine) × (slice_get lines i ≡ Some k) × MentionsAt terminals k p name

-- the lines declare no start symbol, or this one, in the line with its number
abbrev pub IsStartIn : List TokenLine → Option StartSymbol → Type 0
IsStartIn lines None = (i : ℕ) (k : TokenLine) (tokens : List Tok) → slice_get lines i ≡ Some k → StartLine k tokens → ⊥
IsStartIn lines (Some s) = (i : ℕ) × (k : TokenLine) × (tokens : List Tok) × (slice_get lines i ≡ Some k) × StartLine k (Word s.name.now ∷ tokens) × (s.line ≡ i + 1)

-- what is known are the declarations, mentions and uses of these lines, where terminals have these names
pub record Knows (terminals : List (List ℕ)) (lines : List TokenLine) (k : Known) : Type 0 where
  pub names : bytes_of k.terminals ≡ names_of (declared_in lines)
  pub numbers : k.numbers.keys ≡ numbers_of (declared_in lines)
  pub small_numbers : (i n : ℕ) → slice_get k.numbers.keys i ≡ Some n → n ≤ 2147483647
  pub names_once : AreDistinct (bytes_of k.terminals)
  pub few : length (bytes_of k.terminals) ≤ 1023
  pub mentioned : (name : List ℕ) → MentionedIn terminals lines name → Among name (bytes_of k.nonterminals)
  pub mentions : (name : List ℕ) → Among name (bytes_of k.nonterminals) → MentionedIn terminals lines name
  pub mentioned_once : AreDistinct (bytes_of k.nonterminals)
  pub few_mentioned : length (bytes_of k.nonterminals) ≤ 127
  pub start : IsStartIn lines k.start
  pub noted : length k.arities.items ≡ length (bytes_of k.terminals)
  pub arities : (i n : ℕ) (name : List ℕ) → slice_get (bytes_of k.terminals) i ≡ Some name → slice_get k.arities.items i ≡ Some (Some n) → IsFirstUse lines name n
  pub used : (i n : ℕ) (name : List ℕ) → slice_get (bytes_of k.terminals) i ≡ Some name → IsFirstUse lines name n → slice_get k.arities.items i ≡ Some (Some n)
  pub rules : RuleCount lines k.rules

-- a fault at the one place and row isn't behind one at the other
abbrev pub NotRight : ℕ → ℕ → ℕ → ℕ → Type 0
NotRight place row other_place other_row = (place < other_place) ⊎ ((place ≡ other_place) × (row ≤ other_row))

-- the fault stands in the line, and none stands before it
pub record IsLineFault (s : Setting) (l : TokenLine) (place : ℕ) (fault : LineFault) : Type 0 where
  pub stands : Stands fault s l place
  pub least : (other : LineFault) (q : ℕ) → Stands other s l q → NotRight place (row_of fault) q (row_of other)

-- no fault stands in the line
abbrev pub IsFine : Setting → TokenLine → Type 0
IsFine s l = (fault : LineFault) (place : ℕ) → Stands fault s l place → ⊥

-- the line mentions names, and nothing else changes
pub record Mentions (s : Setting) (l : TokenLine) (old new : Known) : Type 0 where
  pub terminals : new.terminals ≡ old.terminals
  pub numbers : new.numbers ≡ old.numbers
  pub arities : new.arities ≡ old.arities
  pub start : new.start ≡ old.start
  pub rules : new.rules ≡ old.rules
  pub mentioned : (name : List ℕ) → MentionedIn s.terminals (s.before ++ l ∷ []) name → Among name (bytes_of new.nonterminals)
  pub mentions : (name : List ℕ) → Among name (bytes_of new.nonterminals) → MentionedIn s.terminals (s.before ++ l ∷ []) name
  pub mentioned_once : AreDistinct (bytes_of new.nonterminals)
  pub few_mentioned : length (bytes_of new.nonterminals) ≤ 127

-- the line uses terminals, and nothing else changes
pub record Uses (s : Setting) (l : TokenLine) (old new : Known) : Type 0 where
  pub terminals : new.terminals ≡ old.terminals
  pub numbers : new.numbers ≡ old.numbers
  pub nonterminals : new.nonterminals ≡ old.nonterminals
  pub start : new.start ≡ old.start
  pub rules : new.rules ≡ old.rules
  pub noted : length new.arities.items ≡ length old.arities.items
  pub arities : (i n : ℕ) (name : List ℕ) → slice_get (bytes_of old.terminals) i ≡ Some name → slice_get new.arities.items i ≡ Some (Some n) → IsFirstUse (s.before ++ l ∷ []) name n
  pub used : (i n : ℕ) (name : List ℕ) → slice_get (bytes_of old.terminals) i ≡ Some name → IsFirstUse (s.before ++ l ∷ []) name n → slice_get new.arities.items i ≡ Some (Some n)

-- what a line of a text gave: what it is, with what is known behind it, or its first fault
abbrev pub NotesLine : Setting → TokenLine → Known → MLine → Type 0
NotesLine s l new line = IsLine l.section l.tokens line × IsFine s l × Knows s.terminals (s.before ++ l ∷ []) new

abbrev pub LineFails : Setting → TokenLine → LineError → Type 0
LineFails s l Memory = Unit {0}
LineFails s l (Fault fault) = (place : ℕ) × IsLineFault s l place fault
