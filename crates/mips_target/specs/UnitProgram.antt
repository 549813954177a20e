-- The program that the lines of a generated unit make: its functions with the places at which they stand.
use Rattle.asm_text.specs.Program.{MProgram}
use Rattle.op_forest.specs.Lowered.{LoweredUnit}
use Rattle.unit_text.specs.UnitOf.{HasProgram}
use Rattle.mips_target.specs.Generated.{IsFunction}

-- The code and the labels are those of the generated functions, one behind the other, each at its entry, and there are no
-- data so far. A name that an instruction speaks of is a label or a built-in function.
abbrev pub IsUnitProgram : LoweredUnit → MProgram → Type 0
IsUnitProgram u p = HasProgram (IsFunction u) u p
