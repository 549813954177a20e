-- The program that lines make, if each statement stands in its section, no label stands twice, and each name that is used
-- is a label's or a built-in function's.
use Rattle.std.specs.Prelude.{◌≡◌, ◌≢◌, ◌≤◌, ℕ, List, [], ◌∷◌, ◌++◌, length, map, All}
use Rattle.asm_lines.specs.Sections.{StandsIn}
use Rattle.asm_text.specs.Addresses.{IsKnown}
use Rattle.asm_text.specs.Lines.{MLine}
use Rattle.asm_text.specs.Made.{Made, made_of, nothing, with_line}
use Rattle.asm_text.specs.Program.{MLabel, MProgram, data_size}

abbrev pub label_names : List MLabel → List (List ℕ)
label_names labels = map (λ (l : MLabel). l.name) labels

-- the name is none of these
abbrev pub IsNew : List (List ℕ) → List ℕ → Type 0
IsNew names name = All (λ n. n ≢ name) names

-- the names are none of those that stand before, and each stands once
abbrev pub AreNew : List (List ℕ) → List (List ℕ) → Type 0
AreNew before [] = Unit {0}
AreNew before (name ∷ names) = IsNew before name × AreNew (before ++ name ∷ []) names

-- a line may stand behind those that make this
pub record IsAllowed (m : Made) (line : MLine) : Type 0 where
  pub new : AreNew (label_names m.labels) line.labels
  pub here : StandsIn m.section line.statement

abbrev pub AreAllowed : Made → List MLine → Type 0
AreAllowed m [] = Unit {0}
AreAllowed m (line ∷ lines) = IsAllowed m line × AreAllowed (with_line m line) lines

abbrev pub program_of : Made → MProgram
program_of m = record { code = m.code; numbers = m.numbers; datums = m.datums; labels = m.labels }

pub record Makes (lines : List MLine) (p : MProgram) : Type 0 where
  pub allowed : AreAllowed nothing lines
  pub known : All (λ u. IsKnown (made_of lines).labels u.name) (made_of lines).uses
  pub program : p ≡ program_of (made_of lines)

-- a program that is read has at most so many instructions and so many bytes of data
abbrev pub IsWithinLimits : MProgram → Type 0
IsWithinLimits p = (length p.code ≤ 4194304) × (data_size p.datums ≤ 33554432)
