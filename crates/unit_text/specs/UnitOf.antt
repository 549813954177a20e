-- The lines of a unit whose functions are made in some way, and the program that they make: its functions with the places
-- at which they stand. How a target makes a function's code is a relation between the function and that code.
use Rattle.std.specs.Prelude.{◌≡◌, ℕ, List, [], ◌∷◌, Some, slice_get}
use Rattle.std.specs.List.{AllZip}
use Rattle.asm_text.specs.Addresses.{IsKnown}
use Rattle.asm_text.specs.Lines.{MLine}
use Rattle.asm_text.specs.Names.{names_of_instruction}
use Rattle.asm_text.specs.Program.{MInstruction, MProgram}
use Rattle.op_forest.specs.declared.lowered.LoweredFunction.{LoweredFunction}
use Rattle.op_forest.specs.Lowered.{LoweredUnit}
use Rattle.unit_text.specs.Entries.{codes_of, labels_of, HasEntry}
use Rattle.unit_text.specs.UnitLines.{Coded, unit_lines}

-- the lines are those of the unit's functions, each made so
pub record AreLinesOf (IsMade : LoweredFunction → Coded → Type 0) (u : LoweredUnit) (lines : List MLine) : Type 0 where
  pub functions : List Coded
  pub each : AllZip IsMade u.functions functions
  pub lines_are : lines ≡ unit_lines functions

-- The code and the labels are those of the functions, each made so, one behind the other, each at its entry, and there are
-- no data so far. A name that an instruction speaks of is a label or a built-in function.
pub record HasProgram (IsMade : LoweredFunction → Coded → Type 0) (u : LoweredUnit) (p : MProgram) : Type 0 where
  pub functions : List Coded
  pub code : p.code ≡ codes_of functions
  pub datums : p.datums ≡ []
  pub labels : p.labels ≡ labels_of 0 functions
  pub each : AllZip (λ f c. IsMade f c × HasEntry p c) u.functions functions
  pub known : (place : ℕ) (i : MInstruction) (name : List ℕ) → names_of_instruction i ≡ name ∷ [] → slice_get p.code place ≡ Some i → IsKnown p.labels name
