-- What lines make, where names are numbers.
use Rattle.std.specs.Prelude.{◌≡◌, ◌≤◌, ℕ, List, length, map, All}
use Rattle.asm_lines.specs.declared.instruction.Instruction.{Instruction}
use Rattle.asm_lines.specs.declared.section.Section.{Section}
use Rattle.asm_lines.specs.Statements.{instruction_with}
use Rattle.asm_text.specs.declared.datum.Datum.{Datum}
use Rattle.asm_text.specs.Made.{Made, Use}
use Rattle.asm_text.specs.Names.{name_at, datum_with, names_of_instruction, names_of_datum}
use Rattle.asm_text.specs.Program.{MLabel, data_size}
use Rattle.asm_text.specs.ProgramTable.{AreBelow}
use Rattle.asm_text.specs.Uses.{used_names}

abbrev pub made_view : Section → List (Instruction ℕ) → List ℕ → List (Datum ℕ) → List MLabel → List Use → Made
made_view section code numbers datums labels uses = record {
  section = section;
  code = map (instruction_with (name_at (used_names uses))) code;
  numbers = numbers;
  datums = map (datum_with (name_at (used_names uses))) datums;
  labels = labels;
  uses = uses;
}

-- each number is that of a name, and code and data are within the limits
pub record IsMadeTable (code : List (Instruction ℕ)) (datums : List (Datum ℕ)) (size : ℕ) (uses : List Use) : Type 0 where
  pub code_named : All (λ i. AreBelow (length uses) (names_of_instruction i)) code
  pub data_named : All (λ d. AreBelow (length uses) (names_of_datum d)) datums
  pub size_is : size ≡ data_size datums
  pub code_few : length code ≤ 4194304
  pub data_few : size ≤ 33554432
