-- The lines of a description's text: its sections, and the tokens of a line.
-- Before the declarations a prologue may stand: its first line begins with `%{`, and the first line behind that one
-- which begins with `%}` closes it. The first line `%%` ends the declarations, the second, if there is one, ends the
-- rules, and what follows is the tail. The three stand at the first byte of a line.
use Rattle.std.specs.Prelude.{◌≡◌, ℕ, ◌==◌, List, [], ◌∷◌, Option, Some, None, drop, if◌then◌else◌}
use Rattle.lburg_lines.specs.declared.section.Section.{Section}
use Rattle.lburg_lines.specs.declared.section.Section.TheVariants.{Head, Prologue, Declarations, Rules, Tail}
use Rattle.lburg_lines.specs.declared.token.Border.{Border}
use Rattle.lburg_lines.specs.declared.token.Border.TheVariants.{Divider, PrologueStart, PrologueEnd}
use Rattle.lburg_lines.specs.Tokens.{Tok, Bound}
use Rattle.lburg_lines.specs.Spelling.{Spells}

-- the border that a percent sign and this byte are
abbrev pub border_of : ℕ → Option Border
border_of b = if b == 37 then Some Divider else (if b == 123 then Some PrologueStart else (if b == 125 then Some PrologueEnd else None))

-- the border with which the bytes begin
abbrev pub border_at : List ℕ → Option Border
border_at [] = None
border_at (a ∷ []) = None
border_at (a ∷ b ∷ rest) = if a == 37 then border_of b else None

-- the tokens behind a border, or of the whole line where it begins with none
abbrev pub spells_behind : Option Border → List Tok → List ℕ → Type 0
spells_behind None tokens bytes = Spells tokens bytes
spells_behind (Some border) tokens bytes = (others : List Tok) × (tokens ≡ Bound border ∷ others) × Spells others (drop 2 bytes)

abbrev pub SpellsLine : List Tok → List ℕ → Type 0
SpellsLine tokens bytes = spells_behind (border_at bytes) tokens bytes

-- the rest of the line that opens a prologue belongs to it
abbrev pub spells_head : Option Border → List Tok → List ℕ → Type 0
spells_head (Some PrologueStart) tokens bytes = tokens ≡ Bound PrologueStart ∷ []
spells_head border tokens bytes = spells_behind border tokens bytes

-- a line of a prologue counts as blank, unless it closes it
abbrev pub spells_prologue : Option Border → List Tok → List ℕ → Type 0
spells_prologue (Some PrologueEnd) tokens bytes = spells_behind (Some PrologueEnd) tokens bytes
spells_prologue border tokens bytes = tokens ≡ []

-- the tokens of a line of the section
abbrev pub SpellsIn : Section → List Tok → List ℕ → Type 0
SpellsIn Head tokens bytes = spells_head (border_at bytes) tokens bytes
SpellsIn Prologue tokens bytes = spells_prologue (border_at bytes) tokens bytes
SpellsIn section tokens bytes = SpellsLine tokens bytes

abbrev pub first_border : List Tok → Option Border
first_border (Bound border ∷ tokens) = Some border
first_border tokens = None

abbrev pub behind_head : Option Border → Section
behind_head (Some PrologueStart) = Prologue
behind_head (Some Divider) = Rules
behind_head border = Declarations

abbrev pub behind_prologue : Option Border → Section
behind_prologue (Some PrologueEnd) = Declarations
behind_prologue border = Prologue

-- a divider goes on to the one section, anything else stays in the other
abbrev pub behind_divider : Section → Section → Option Border → Section
behind_divider here there (Some Divider) = there
behind_divider here there border = here

-- the section behind a line with these tokens
abbrev pub section_behind : Section → List Tok → Section
section_behind Head [] = Head
section_behind Head (t ∷ ts) = behind_head (first_border (t ∷ ts))
section_behind Prologue tokens = behind_prologue (first_border tokens)
section_behind Declarations tokens = behind_divider Declarations Rules (first_border tokens)
section_behind Rules tokens = behind_divider Rules Tail (first_border tokens)
section_behind Tail tokens = Tail

-- a line: its section and its tokens
pub record TokenLine : Type 0 where
  pub section : Section
  pub tokens : List Tok

-- The lines of a description's text, from this section on and before its tail.
abbrev pub AreLinesFrom : Section → List (List ℕ) → List TokenLine → Type 0
AreLinesFrom Tail lines all = all ≡ []
AreLinesFrom section [] all = all ≡ []
AreLinesFrom section (bytes ∷ lines) all =
    (tokens : List Tok) × (others : List TokenLine) × SpellsIn section tokens bytes × (all ≡ record { section = section; tokens = tokens } ∷ others) × AreLinesFrom (section_behind section tokens) lines others
