-- UnknownNonterminal: a nonterminal in a pattern, or the start symbol, has no rule.
use Rattle.std.specs.Prelude.{◌≡◌, ℕ, Some, List, ◌∷◌, slice_get}
use Rattle.lburg_lines.specs.Tokens.{Tok, Word}
use Rattle.lburg_lines.specs.Sections.{TokenLine}
use Rattle.lburg_faults.specs.Lines.{StartLine, IsRules, InPattern}
use Rattle.lburg_faults.specs.Terminals.{Among, declared_in, names_of}

-- the name is a rule's left side
abbrev pub IsLeft : List TokenLine → List ℕ → Type 0
IsLeft lines name = (i : ℕ) × (k : TokenLine) × (tokens : List Tok) × (slice_get lines i ≡ Some k) × IsRules k × (k.tokens ≡ Word name ∷ tokens)

-- a name of the line's pattern is neither a terminal nor a left side
abbrev pub HasUnruled : List TokenLine → TokenLine → Type 0
HasUnruled lines l =
    (place : ℕ) × (name : List ℕ) × InPattern l place × (slice_get l.tokens place ≡ Some (Word name)) × (Among name (names_of (declared_in lines)) → ⊥) × (IsLeft lines name → ⊥)

-- the line with this place in the list names a start symbol that is no left side
abbrev pub IsUnruledStart : List TokenLine → ℕ → Type 0
IsUnruledStart lines i =
    (l : TokenLine) × (name : List ℕ) × (tokens : List Tok) × (slice_get lines i ≡ Some l) × StartLine l (Word name ∷ tokens) × (IsLeft lines name → ⊥)
