-- What stands in a section of a program: instructions in `.text`, data in `.data`; labels, `.text`, `.data` and `.globl`
-- in both.
use Rattle.std.specs.Prelude.{◌≡◌, ℕ, List}
use Rattle.asm_lines.specs.declared.section.Section.{Section}
use Rattle.asm_lines.specs.declared.section.Section.TheVariants as section
use Rattle.asm_lines.specs.declared.mnemonic.Mnemonic.{Mnemonic}
use Rattle.asm_lines.specs.declared.mnemonic.DirectiveWord.{DirectiveWord}
use Rattle.asm_lines.specs.declared.mnemonic.DirectiveWord.TheVariants as directive
use Rattle.asm_lines.specs.Words.{word_of, directive_text}
use Rattle.asm_lines.specs.Statements.{MStatement, Align, Words, Halves, Bytes, Space, Does}

-- the directives that write data
abbrev pub IsOfData : DirectiveWord → Type 0
IsOfData directive.Text = ⊥
IsOfData directive.Data = ⊥
IsOfData directive.Global = ⊥
IsOfData d = Unit {0}

-- a known word that has no place in the section
abbrev pub IsElsewhere : Section → List ℕ → Type 0
IsElsewhere section.Text word = (d : DirectiveWord) × IsOfData d × (word ≡ directive_text d)
IsElsewhere section.Data word = (m : Mnemonic) × (word ≡ word_of m)

-- a statement that has its place in the section
abbrev pub StandsIn : Section → MStatement → Type 0
StandsIn section.Data (Does i) = ⊥
StandsIn section.Text (Align n) = ⊥
StandsIn section.Text (Words items) = ⊥
StandsIn section.Text (Halves halves) = ⊥
StandsIn section.Text (Bytes bytes) = ⊥
StandsIn section.Text (Space n) = ⊥
StandsIn in_section s = Unit {0}
