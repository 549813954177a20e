-- What a line's setting says of the text in which it stands.
use Rattle.std.specs.Prelude.{◌≡◌, ℕ, List, Some, slice_get}
use Rattle.lcc_text.specs.Lines.{lines_of}
use Rattle.lburg_lines.specs.declared.section.Section.TheVariants.{Head}
use Rattle.lburg_lines.specs.Sections.{TokenLine, AreLinesFrom}
use Rattle.lburg_faults.specs.Lines.{IsRules, InDeclarations}
use Rattle.lburg_faults.specs.Terminals.{declared_in, names_of}
use Rattle.lburg_faults.specs.Setting.{Setting}

-- the text declares terminals of these names
abbrev pub TextDeclares : List ℕ → List (List ℕ) → Type 0
TextDeclares text terminals = (lines : List TokenLine) × AreLinesFrom Head (lines_of text) lines × (terminals ≡ names_of (declared_in lines))

-- the setting is that of a line of the text: where the line is of the rules, the lines before declare all terminals
pub record IsSettingOf (text : List ℕ) (s : Setting) (l : TokenLine) : Type 0 where
  pub terminals : TextDeclares text s.terminals
  pub declared : IsRules l → s.terminals ≡ names_of (declared_in s.before)
  pub early : InDeclarations l.section → (i : ℕ) (k : TokenLine) → slice_get s.before i ≡ Some k → IsRules k → ⊥
