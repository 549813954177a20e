-- The lines of a description's text that declare terminals or the start symbol, and those that are rules.
use Rattle.std.specs.Prelude.{◌≡◌, ◌≤◌, ℕ, ◌+◌, Bool, true, false, List, [], ◌∷◌, take, codes}
use Rattle.lburg_lines.specs.declared.section.Section.{Section}
use Rattle.lburg_lines.specs.declared.section.Section.TheVariants.{Head, Declarations, Rules}
use Rattle.lburg_lines.specs.Tokens.{Tok, Word, Template, Keyword, Bound}
use Rattle.lburg_lines.specs.Sections.{TokenLine}

-- a line that may declare
abbrev pub InDeclarations : Section → Type 0
InDeclarations Head = Unit {0}
InDeclarations Declarations = Unit {0}
InDeclarations section = ⊥

-- the line is %term and these tokens
abbrev pub Terms : TokenLine → List Tok → Type 0
Terms l tokens = InDeclarations l.section × (l.tokens ≡ Keyword (codes "term") ∷ tokens)

-- the line is %start and these tokens
abbrev pub StartLine : TokenLine → List Tok → Type 0
StartLine l tokens = InDeclarations l.section × (l.tokens ≡ Keyword (codes "start") ∷ tokens)

-- the line stands among the rules
abbrev pub IsRules : TokenLine → Type 0
IsRules l = l.section ≡ Rules

-- a template stands among the tokens
abbrev pub has_template : List Tok → Bool
has_template [] = false
has_template (Template b ∷ ts) = true
has_template (t ∷ ts) = has_template ts

-- the place is one of the pattern of a rule: behind its left side and colon, and before its template
abbrev pub InPattern : TokenLine → ℕ → Type 0
InPattern l place = IsRules l × (2 ≤ place) × (has_template (take place l.tokens) ≡ false)

-- how many of the tokens are names
abbrev pub words_in : List Tok → ℕ
words_in [] = 0
words_in (Word n ∷ ts) = words_in ts + 1
words_in (t ∷ ts) = words_in ts

-- the tokens are neither none nor begin with a border
abbrev pub BeginsRule : List Tok → Type 0
BeginsRule [] = ⊥
BeginsRule (Bound b ∷ ts) = ⊥
BeginsRule (t ∷ ts) = Unit {0}

-- a line of the rules that isn't blank and doesn't end them
abbrev pub IsRuleLine : TokenLine → Type 0
IsRuleLine l = IsRules l × BeginsRule l.tokens
