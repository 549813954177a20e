-- What stands in a section.
use Rattle.std.proofs.Common.{◌≡◌, ℕ, Some, List, subst, inl, inr}
use Rattle.asm_lines.specs.declared.section.Section.{Section}
use Rattle.asm_lines.specs.declared.section.Section.TheVariants as section
use Rattle.asm_lines.specs.declared.mnemonic.Mnemonic.{Mnemonic}
use Rattle.asm_lines.specs.declared.mnemonic.DirectiveWord.{DirectiveWord}
use Rattle.asm_lines.specs.declared.mnemonic.DirectiveWord.TheVariants as directive
use Rattle.asm_lines.specs.declared.statement_reader.Word.TheVariants as known
use Rattle.asm_lines.specs.Tokens.{Spaced}
use Rattle.asm_lines.specs.Words.{head_of}
use Rattle.asm_lines.specs.Statements.{MStatement, Text, Data, Global, Align, Words, Halves, Bytes, Space, Does, IsRow}
use Rattle.asm_lines.specs.Sections.{IsOfData, IsElsewhere, StandsIn}
use Rattle.asm_lines.specs.Faults.{IsKnown}
use Rattle.asm_lines.proofs.OneStatement.{spoken, row_of}

pub elsewhere_known : (s : Section) (word : List ℕ) → IsElsewhere s word → IsKnown word
elsewhere_known section.Text word h = inr (h.0, h.2)
elsewhere_known section.Data word h = inl h

-- a row of a word that has its place in the section stands there
pub row_stands : (in_section : Section) (word : List ℕ) (ts : List Spaced) (s : MStatement) → IsRow word ts s → (IsElsewhere in_section word → ⊥) → StandsIn in_section s
row_stands section.Text word ts (Align n) p h = h (directive.Align, tt, p.0)
row_stands section.Text word ts (Words items) p h = h (directive.Word, tt, p.0)
row_stands section.Text word ts (Halves halves) p h = h (directive.Half, tt, p.0)
row_stands section.Text word ts (Bytes bytes) p h = h (directive.Byte, tt, p.0)
row_stands section.Text word ts (Space n) p h = h (directive.Space, tt, p.0)
row_stands section.Data word ts (Does i) p h = h (head_of i, p.0)
row_stands section.Text word ts (Does i) p h = tt
row_stands in_section word ts s p h = tt

-- what stands in the section is no row of data
not_of_data : (s : MStatement) (d : DirectiveWord) → spoken s ≡ Some (known.Directive d) → IsOfData d → StandsIn section.Text s → ⊥
not_of_data Text d e h p = let f : d ≡ directive.Text = cc in subst IsOfData f h
not_of_data Data d e h p = let f : d ≡ directive.Data = cc in subst IsOfData f h
not_of_data (Global name) d e h p = let f : d ≡ directive.Global = cc in subst IsOfData f h
not_of_data (Align n) d e h p = p
not_of_data (Words items) d e h p = p
not_of_data (Halves halves) d e h p = p
not_of_data (Bytes bytes) d e h p = p
not_of_data (Space n) d e h p = p
not_of_data s d e h p = cc

-- and none of an instruction
no_instruction : (s : MStatement) (m : Mnemonic) → spoken s ≡ Some (known.Instruction m) → StandsIn section.Data s → ⊥
no_instruction (Does i) m e p = p
no_instruction s m e p = cc

-- no row of a word that has no place in the section stands there
pub row_elsewhere : (in_section : Section) (word : List ℕ) (ts : List Spaced) (s : MStatement) → IsRow word ts s → StandsIn in_section s → IsElsewhere in_section word → ⊥
row_elsewhere section.Text word ts s p k h =
    let P : List ℕ → Type 0 = λ w. IsRow w ts s in
    not_of_data s h.0 (row_of (known.Directive h.0) ts s (subst P h.2 p)) h.1 k
row_elsewhere section.Data word ts s p k h =
    let P : List ℕ → Type 0 = λ w. IsRow w ts s in
    no_instruction s h.0 (row_of (known.Instruction h.0) ts s (subst P h.1 p)) k
