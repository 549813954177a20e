-- The first fault of a text. The lines before it make a part of a program within the limits. On one line a label that
-- stands twice goes before what its statement breaks, and that before a passed limit. A name that is no label is told
-- only where nothing else is broken, at its first use.
use Rattle.std.specs.Prelude.{◌≡◌, ◌<◌, ℕ, ◌+◌, List, [], ◌∷◌, ◌++◌, length, All}
use Rattle.lcc_base.specs.declared.which.Which.{Which}
use Rattle.lcc_base.specs.declared.which.Which.TheVariants as which
use Rattle.lcc_text.specs.Lines.{lines_of}
use Rattle.asm_lines.specs.declared.fault.StatementFault.TheVariants as statement_fault
use Rattle.asm_lines.specs.Sections.{StandsIn}
use Rattle.asm_lines.specs.Spelling.{Spells}
use Rattle.asm_lines.specs.Faults.{FaultStands}
use Rattle.asm_lines.specs.Statements.{MStatement, IsStatement}
use Rattle.asm_lines.specs.Tokens.{Spaced}
use Rattle.asm_text.specs.declared.asm_fault.AsmFault.{AsmFault}
use Rattle.asm_text.specs.declared.asm_fault.AsmFault.TheVariants.{BadLine, UnknownInstruction, BadOperand, DoubleLabel, UnknownLabel, TooLarge, Memory}
use Rattle.asm_text.specs.Addresses.{IsKnown}
use Rattle.asm_text.specs.Lines.{MLine, AreLabels, NoLabel, AreLines}
use Rattle.asm_text.specs.Made.{Made, Use, made_of, nothing, with_labels, with_statement}
use Rattle.asm_text.specs.Makes.{AreNew, AreAllowed, IsWithinLimits, label_names, program_of}
use Rattle.asm_text.specs.Program.{data_size}

-- among the labels at the front of the tokens is one whose name stands before
abbrev pub HasDouble : Made → List Spaced → Type 0
HasDouble m ts = (names : List (List ℕ)) × (rest : List Spaced) × AreLabels ts names rest × (AreNew (label_names m.labels) names → ⊥)

-- what stands behind the labels of the tokens, which are new
pub record Behind (m : Made) (ts : List Spaced) : Type 0 where
  pub names : List (List ℕ)
  pub rest : List Spaced
  pub labels : AreLabels ts names rest
  pub last : NoLabel rest
  pub new : AreNew (label_names m.labels) names

-- a limit is passed
abbrev pub IsPast : Made → Which → Type 0
IsPast m which.Code = 4194304 < length m.code
IsPast m which.Data = 33554432 < data_size m.datums
IsPast m w = ⊥

-- with the statement behind the labels a limit is passed
pub record Passes (m : Made) (ts : List Spaced) (number : ℕ) (w : Which) : Type 0 where
  pub behind : Behind m ts
  pub statement : MStatement
  pub is : IsStatement behind.rest statement
  pub here : StandsIn m.section statement
  pub past : IsPast (with_statement m number statement) w

-- the fault stands on the line of these tokens and this number, behind lines that make this
abbrev pub Stands : Made → List Spaced → ℕ → AsmFault → Type 0
Stands m ts number (BadLine line) = (line ≡ number) × ((b : Behind m ts) × FaultStands m.section b.rest statement_fault.BadLine)
Stands m ts number (UnknownInstruction line) = (line ≡ number) × ((b : Behind m ts) × FaultStands m.section b.rest statement_fault.UnknownInstruction)
Stands m ts number (BadOperand line) = (line ≡ number) × ((b : Behind m ts) × FaultStands m.section b.rest statement_fault.BadOperand)
Stands m ts number (DoubleLabel line) = (line ≡ number) × HasDouble m ts
Stands m ts number (UnknownLabel line) = ⊥
Stands m ts number (TooLarge line w) = (line ≡ number) × Passes m ts number w
Stands m ts number Memory = ⊥

-- the text begins with these lines, which make a part of a program within the limits
pub record BeginsWith (text : List ℕ) (front : List MLine) (behind : List (List ℕ)) : Type 0 where
  pub before : List (List ℕ)
  pub parts : lines_of text ≡ before ++ behind
  pub spelled : AreLines before 1 front
  pub allowed : AreAllowed nothing front
  pub limits : IsWithinLimits (program_of (made_of front))

-- the fault stands on a line, and none before it
pub record StandsFirst (text : List ℕ) (f : AsmFault) : Type 0 where
  pub front : List MLine
  pub bytes : List ℕ
  pub behind : List (List ℕ)
  pub begins : BeginsWith text front (bytes ∷ behind)
  pub tokens : List Spaced
  pub spelled : Spells tokens bytes
  pub stands : Stands (made_of front) tokens (length front + 1) f

-- the first name that is neither a label nor a built-in function is used on this line
pub record IsFirstUnknown (m : Made) (line : ℕ) : Type 0 where
  pub known : List Use
  pub first : Use
  pub behind : List Use
  pub uses : m.uses ≡ known ++ first ∷ behind
  pub are_known : All (λ (u : Use). IsKnown m.labels u.name) known
  pub unknown : IsKnown m.labels first.name → ⊥
  pub line_is : line ≡ first.line

-- the whole text has no other fault
pub record IsUnknownFirst (text : List ℕ) (line : ℕ) : Type 0 where
  pub lines : List MLine
  pub whole : BeginsWith text lines []
  pub first : IsFirstUnknown (made_of lines) line

abbrev pub FirstFault : List ℕ → AsmFault → Type 0
FirstFault text (UnknownLabel line) = IsUnknownFirst text line
FirstFault text f = StandsFirst text f
