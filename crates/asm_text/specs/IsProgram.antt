-- What a program that was read is: it is within the limits, each label has a name of its own and stands in its section or
-- at its end, and each name in code and data is a label's or a built-in function's.
use Rattle.std.specs.Prelude.{◌≡◌, ◌≤◌, length, All}
use Rattle.asm_text.specs.declared.place.Place.{Place}
use Rattle.asm_text.specs.declared.place.Place.TheVariants.{Code, Data}
use Rattle.asm_text.specs.Addresses.{IsKnown}
use Rattle.asm_text.specs.Makes.{IsWithinLimits}
use Rattle.asm_text.specs.Names.{names_of_instruction, names_of_datum}
use Rattle.asm_text.specs.Program.{MProgram, AreDistinct, data_size}

abbrev pub IsPlaceIn : MProgram → Place → Type 0
IsPlaceIn p (Code n) = n ≤ length p.code
IsPlaceIn p (Data n) = n ≤ data_size p.datums

pub record IsProgram (p : MProgram) : Type 0 where
  pub limits : IsWithinLimits p
  pub numbered : length p.numbers ≡ length p.code
  pub within : All (λ l. IsPlaceIn p l.place) p.labels
  pub distinct : AreDistinct p.labels
  pub code_known : All (λ i. All (IsKnown p.labels) (names_of_instruction i)) p.code
  pub data_known : All (λ d. All (IsKnown p.labels) (names_of_datum d)) p.datums
