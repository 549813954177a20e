-- The first fault of a description's text: the first in the text, within a line the first from the left, at one place the first of
-- the table. Where no line has a fault, the text has one at its end if it has no rule; and where it has none there, a
-- nonterminal in a pattern without a rule is the fault of the first such rule, and last the start symbol without a rule.
use Rattle.std.specs.Prelude.{◌≡◌, ◌<◌, ◌⊎◌, ℕ, ◌+◌, max, Some, List, ◌∷◌, ◌++◌, length, slice_get}
use Rattle.lcc_text.specs.Lines.{lines_of}
use Rattle.lcc_text.specs.Firsts.{Place, IsFirst}
use Rattle.lburg_lines.specs.declared.section.Section.TheVariants.{Head}
use Rattle.lburg_lines.specs.Sections.{TokenLine, AreLinesFrom}
use Rattle.lburg_faults.specs.declared.line_fault.LineFault.{LineFault}
use Rattle.lburg_faults.specs.declared.line_fault.LineFault.TheVariants as line
use Rattle.lburg_faults.specs.declared.desc_fault.DescFault.{DescFault}
use Rattle.lburg_faults.specs.declared.desc_fault.DescFault.TheVariants as desc
use Rattle.lburg_faults.specs.Lines.{IsRuleLine}
use Rattle.lburg_faults.specs.Setting.{Setting}
use Rattle.lburg_faults.specs.Terminals.{declared_in, names_of}
use Rattle.lburg_faults.specs.LineFaults.{Stands, row_of}
use Rattle.lburg_faults.specs.UnknownNonterminal.{HasUnruled, IsUnruledStart}

-- what the faults of a line behind others depend on
abbrev pub setting_of : List TokenLine → List TokenLine → Setting
setting_of lines before = record { terminals = names_of (declared_in lines); before = before }

-- a fault of a line stands at the place
pub record StandsIn (lines : List TokenLine) (place : Place) : Type 0 where
  pub before : List TokenLine
  pub here : TokenLine
  pub behind : List TokenLine
  pub parts : lines ≡ before ++ here ∷ behind
  pub line_is : place.line ≡ length before + 1
  pub fault : LineFault
  pub row_is : place.row ≡ row_of fault
  pub stands : Stands fault (setting_of lines before) here place.token

-- the fault of a line with this number
abbrev pub told : LineFault → ℕ → DescFault
told line.BadToken n = desc.BadToken n
told line.BadRule n = desc.BadRule n
told line.UnknownTerminal n = desc.UnknownTerminal n
told line.DoubleTerminal n = desc.DoubleTerminal n
told line.ArityDiffers n = desc.ArityDiffers n
told line.CostForm n = desc.CostForm n
told line.CostTooLarge n = desc.CostTooLarge n
told (line.Limit which) n = desc.Limit n which

abbrev pub NoneStands : List TokenLine → Type 0
NoneStands lines = (place : Place) → StandsIn lines place → ⊥

-- no line is a rule
abbrev pub NoRule : List TokenLine → Type 0
NoRule lines = (i : ℕ) (l : TokenLine) → slice_get lines i ≡ Some l → IsRuleLine l → ⊥

abbrev pub InLine : List TokenLine → DescFault → Type 0
InLine lines fault = (place : Place) × (kind : LineFault) × IsFirst (StandsIn lines) place × (place.row ≡ row_of kind) × (fault ≡ told kind place.line)

-- at the last line of the whole text
abbrev pub AtEnd : List ℕ → List TokenLine → DescFault → Type 0
AtEnd text lines fault = NoneStands lines × NoRule lines × (fault ≡ desc.BadRule (max 1 (length (lines_of text))))

-- the first line with an unruled nonterminal in its pattern
abbrev pub InPatterns : List TokenLine → DescFault → Type 0
InPatterns lines fault =
    (i : ℕ) × (l : TokenLine) × (slice_get lines i ≡ Some l) × HasUnruled lines l
    × ((j : ℕ) (k : TokenLine) → j < i → slice_get lines j ≡ Some k → HasUnruled lines k → ⊥) × (fault ≡ desc.UnknownNonterminal (i + 1))

abbrev pub AllRuled : List TokenLine → Type 0
AllRuled lines = (i : ℕ) (l : TokenLine) → slice_get lines i ≡ Some l → HasUnruled lines l → ⊥

abbrev pub AtStart : List TokenLine → DescFault → Type 0
AtStart lines fault = (i : ℕ) × AllRuled lines × IsUnruledStart lines i × (fault ≡ desc.UnknownNonterminal (i + 1))

abbrev pub IsUnruled : List TokenLine → DescFault → Type 0
IsUnruled lines fault = NoneStands lines × (NoRule lines → ⊥) × (InPatterns lines fault ⊎ AtStart lines fault)

pub record FirstFault (text : List ℕ) (fault : DescFault) : Type 0 where
  pub lines : List TokenLine
  pub are : AreLinesFrom Head (lines_of text) lines
  pub first : InLine lines fault ⊎ (AtEnd text lines fault ⊎ IsUnruled lines fault)

-- no fault stands anywhere
pub record IsFaultless (lines : List TokenLine) : Type 0 where
  pub none : NoneStands lines
  pub some_rule : NoRule lines → ⊥
  pub patterns : AllRuled lines
  pub start : (i : ℕ) → IsUnruledStart lines i → ⊥
