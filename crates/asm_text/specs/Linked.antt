-- A program as a machine holds it: each name is its address, and the data are bytes in the machine's order.
use Rattle.std.specs.Prelude.{◌≡◌, ℕ, ◌+◌, ◌/◌, ◌%◌, ◌^◌, List, [], ◌∷◌, ◌++◌, map, replicate, slice_index, codes, Option, Some, None}
use Rattle.lcc_base.specs.declared.order.Order.{Order}
use Rattle.lcc_base.specs.declared.order.Order.TheVariants.{Big, Little}
use Rattle.asm_lines.specs.declared.instruction.Instruction.{Instruction}
use Rattle.asm_lines.specs.Statements.{instruction_with}
use Rattle.asm_text.specs.declared.datum.Datum.{Datum}
use Rattle.asm_text.specs.declared.datum.Datum.TheVariants.{Byte, Half, Word, Named, Zeros}
use Rattle.asm_text.specs.declared.place.Place.{Place}
use Rattle.asm_text.specs.declared.place.Place.TheVariants.{Code}
use Rattle.asm_text.specs.Addresses.{address_by}
use Rattle.asm_text.specs.Program.{MLabel, MProgram, place_of}

abbrev pub or_zero : Option ℕ → ℕ
or_zero None = 0
or_zero (Some address) = address

-- the address of a name; each name of a program has one
abbrev pub linked_name : List MLabel → List ℕ → ℕ
linked_name labels name = or_zero (address_by name (place_of labels name))

-- the address of the name of this number
abbrev pub address_in : List ℕ → ℕ → ℕ
address_in addresses n = slice_index addresses n

abbrev pub linked_code : MProgram → List (Instruction ℕ)
linked_code p = map (instruction_with (linked_name p.labels)) p.code

-- the two and the four bytes of a number
abbrev pub half_bytes : Order → ℕ → List ℕ
half_bytes Big n = n / 2 ^ 8 % 256 ∷ n % 256 ∷ []
half_bytes Little n = n % 256 ∷ n / 2 ^ 8 % 256 ∷ []

abbrev pub word_bytes : Order → ℕ → List ℕ
word_bytes Big n = n / 2 ^ 24 % 256 ∷ n / 2 ^ 16 % 256 ∷ n / 2 ^ 8 % 256 ∷ n % 256 ∷ []
word_bytes Little n = n % 256 ∷ n / 2 ^ 8 % 256 ∷ n / 2 ^ 16 % 256 ∷ n / 2 ^ 24 % 256 ∷ []

-- the bytes of data, where a name has this address
abbrev pub datum_bytes : {N : Type 0} → Order → (N → ℕ) → Datum N → List ℕ
datum_bytes order address (Byte n) = n ∷ []
datum_bytes order address (Half n) = half_bytes order n
datum_bytes order address (Word n) = word_bytes order n
datum_bytes order address (Named name n) = word_bytes order ((address name + n) % 2 ^ 32)
datum_bytes order address (Zeros n) = replicate n 0

abbrev pub all_bytes : {N : Type 0} → Order → (N → ℕ) → List (Datum N) → List ℕ
all_bytes order address [] = []
all_bytes order address (d ∷ ds) = datum_bytes order address d ++ all_bytes order address ds

abbrev pub linked_data : Order → MProgram → List ℕ
linked_data order p = all_bytes order (linked_name p.labels) p.datums

-- the instruction at which a label of the code stands
abbrev pub code_place : Option Place → Option ℕ
code_place (Some (Code n)) = Some n
code_place o = None

-- the label main stands at this instruction
abbrev pub HasMain : MProgram → ℕ → Type 0
HasMain p main = place_of p.labels (codes "main") ≡ Some (Code main)
