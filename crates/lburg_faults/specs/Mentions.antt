-- The names that a text takes for nonterminals: that of `%start`, left sides, and names in patterns that aren't terminals.
use Rattle.std.specs.Prelude.{◌≡◌, ◌<◌, ◌⊎◌, ℕ, Some, List, ◌∷◌, slice_get}
use Rattle.lburg_lines.specs.Tokens.{Tok, Word}
use Rattle.lburg_lines.specs.Sections.{TokenLine}
use Rattle.lburg_faults.specs.Lines.{StartLine, IsRules, InPattern}
use Rattle.lburg_faults.specs.Terminals.{Among}
use Rattle.lburg_faults.specs.Setting.{Setting}

-- where a rule's left side or a name of its pattern stands
abbrev pub InRule : TokenLine → ℕ → Type 0
InRule l place = (IsRules l × (place ≡ 0)) ⊎ InPattern l place

-- the name stands there, where the terminals have these names
abbrev pub MentionsAt : List (List ℕ) → TokenLine → ℕ → List ℕ → Type 0
MentionsAt terminals l place name =
    ((tokens : List Tok) × StartLine l (Word name ∷ tokens) × (place ≡ 1))
    ⊎ (InRule l place × (slice_get l.tokens place ≡ Some (Word name)) × (Among name terminals → ⊥))

-- the name stands in an earlier line, or in this one before the place
abbrev pub MentionedBefore : Setting → TokenLine → ℕ → List ℕ → Type 0
MentionedBefore s l place name =
    ((i p : ℕ) × (k : TokenLine) × (slice_get s.before i ≡ Some k) × MentionsAt s.terminals k p name)
    ⊎ ((p : ℕ) × (p < place) × MentionsAt s.terminals l p name)
