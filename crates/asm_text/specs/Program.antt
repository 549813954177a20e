-- Programs: their instructions, the number of each one's line, their data, and their labels, each at the next instruction
-- or the next byte of data of its section.
use Rattle.std.specs.Prelude.{◌≡◌, ◌<◌, ℕ, ◌+◌, List, [], ◌∷◌, Option, Some, None, sum_by, slice_get, if◌then◌else◌}
use Rattle.std.specs.Str.{bytes_eq}
use Rattle.asm_lines.specs.declared.instruction.Instruction.{Instruction}
use Rattle.asm_text.specs.declared.datum.Datum.{Datum}
use Rattle.asm_text.specs.declared.datum.Datum.TheVariants.{Byte, Half, Word, Named, Zeros}
use Rattle.asm_text.specs.declared.place.Label.{Label}
use Rattle.asm_text.specs.declared.place.Place.{Place}

-- an instruction, a datum and a label with names as bytes
abbrev pub MInstruction : Type 0
MInstruction = Instruction (List ℕ)

abbrev pub MDatum : Type 0
MDatum = Datum (List ℕ)

abbrev pub MLabel : Type 0
MLabel = Label (List ℕ)

pub record MProgram : Type 0 where
  pub code : List MInstruction
  pub numbers : List ℕ
  pub datums : List MDatum
  pub labels : List MLabel

-- the bytes that a datum takes
abbrev pub size_of : {N : Type 0} → Datum N → ℕ
size_of (Byte n) = 1
size_of (Half n) = 2
size_of (Word n) = 4
size_of (Named name n) = 4
size_of (Zeros n) = n

abbrev pub data_size : {N : Type 0} → List (Datum N) → ℕ
data_size datums = sum_by size_of datums

-- no name stands at two labels
abbrev pub AreDistinct : List MLabel → Type 0
AreDistinct labels = (i j : ℕ) (a b : MLabel) → slice_get labels i ≡ Some a → slice_get labels j ≡ Some b → a.name ≡ b.name → i ≡ j

-- the place of the first label with this name
abbrev pub place_of : List MLabel → List ℕ → Option Place
place_of [] name = None
place_of (l ∷ ls) name = if bytes_eq l.name name then Some l.place else place_of ls name
