-- What a line breaks that has no statement in its section.
use Rattle.std.specs.Prelude.{◌≡◌, ◌⊎◌, ℕ, List, [], ◌∷◌}
use Rattle.asm_lines.specs.declared.section.Section.{Section}
use Rattle.asm_lines.specs.declared.mnemonic.Mnemonic.{Mnemonic}
use Rattle.asm_lines.specs.declared.mnemonic.DirectiveWord.{DirectiveWord}
use Rattle.asm_lines.specs.declared.fault.StatementFault.{StatementFault}
use Rattle.asm_lines.specs.declared.fault.StatementFault.TheVariants as fault
use Rattle.asm_lines.specs.Tokens.{Word, Spaced}
use Rattle.asm_lines.specs.Words.{word_of, directive_text}
use Rattle.asm_lines.specs.Statements.{MStatement, IsApart, IsStatement}
use Rattle.asm_lines.specs.Sections.{IsElsewhere}

-- an instruction's word, or a directive's
abbrev pub IsKnown : List ℕ → Type 0
IsKnown word = ((m : Mnemonic) × (word ≡ word_of m)) ⊎ ((d : DirectiveWord) × (word ≡ directive_text d))

-- a word stands first
abbrev pub StartsWith : List Spaced → List ℕ → Type 0
StartsWith [] word = ⊥
StartsWith (t ∷ ts) word = t.tok ≡ Word word

abbrev pub OperandsApart : List Spaced → Type 0
OperandsApart [] = Unit {0}
OperandsApart (t ∷ ts) = IsApart ts

-- Something stands there, but no word first, or a known one without blanks before its operands, or one that has no place
-- in the section.
abbrev pub IsBadLine : Section → List Spaced → Type 0
IsBadLine section ts =
    ((ts ≡ [] → ⊥) × ((word : List ℕ) → StartsWith ts word → ⊥))
    ⊎ ((word : List ℕ) × StartsWith ts word × IsKnown word × (OperandsApart ts → ⊥))
    ⊎ ((word : List ℕ) × StartsWith ts word × IsElsewhere section word)

-- The fault stands: BadLine; a word that isn't known; or a known word that has its place in the section and whose
-- operands, behind blanks, are of no form that it asks for.
abbrev pub FaultStands : Section → List Spaced → StatementFault → Type 0
FaultStands section ts fault.BadLine = IsBadLine section ts
FaultStands section ts fault.UnknownInstruction = (word : List ℕ) × StartsWith ts word × (IsKnown word → ⊥)
FaultStands section ts fault.BadOperand =
    (word : List ℕ) × StartsWith ts word × IsKnown word × OperandsApart ts × (IsElsewhere section word → ⊥) × ((s : MStatement) → IsStatement ts s → ⊥)
FaultStands section ts fault.Memory = ⊥
