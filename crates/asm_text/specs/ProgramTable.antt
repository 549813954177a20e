-- A program whose names are numbers, places in a table of names.
use Rattle.std.specs.Prelude.{◌≡◌, ◌<◌, ℕ, List, length, map, All, Option, codes}
use Rattle.asm_lines.specs.declared.instruction.Instruction.{Instruction}
use Rattle.asm_lines.specs.Statements.{instruction_with}
use Rattle.asm_text.specs.declared.datum.Datum.{Datum}
use Rattle.asm_text.specs.declared.place.Place.{Place}
use Rattle.asm_text.specs.Linked.{linked_name, code_place}
use Rattle.asm_text.specs.Made.{label_at}
use Rattle.asm_text.specs.Names.{name_at, datum_with, names_of_instruction, names_of_datum}
use Rattle.asm_text.specs.Paired.{paired}
use Rattle.asm_text.specs.Program.{MProgram, place_of}

abbrev pub program_view : List (List ℕ) → List (Instruction ℕ) → List ℕ → List (Datum ℕ) → List (List ℕ) → List Place → MProgram
program_view used code numbers datums label_names places = record {
  code = map (instruction_with (name_at used)) code;
  numbers = numbers;
  datums = map (datum_with (name_at used)) datums;
  labels = paired label_at places label_names;
}

-- each number is that of a name
abbrev pub AreBelow : ℕ → List ℕ → Type 0
AreBelow count numbers = All (λ n. n < count) numbers

-- each name that is used has its address, and main its instruction
pub record IsProgramTable (p : MProgram) (used : List (List ℕ)) (addresses : List ℕ) (code : List (Instruction ℕ)) (datums : List (Datum ℕ)) (main : Option ℕ) : Type 0 where
  pub known : addresses ≡ map (linked_name p.labels) used
  pub code_named : All (λ i. AreBelow (length used) (names_of_instruction i)) code
  pub data_named : All (λ d. AreBelow (length used) (names_of_datum d)) datums
  pub start : main ≡ code_place (place_of p.labels (codes "main"))
