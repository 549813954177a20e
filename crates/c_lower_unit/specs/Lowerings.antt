-- How far the functions of a unit are lowered, with the tables of their switches behind other objects.
-- Source: Fraser and Hanson, A Retargetable C Compiler, chapter 5.
use Rattle.std.specs.Prelude.{◌≡◌, ℕ, ◌+◌, List, [], ◌∷◌, ◌++◌, length}
use Rattle.op_forest.specs.declared.lowered.LoweredFunction.{LoweredFunction}
use Rattle.op_forest.specs.declared.lowered.LoweredObject.{LoweredObject}
use Rattle.c_meaning.specs.declared.core_unit.CoreFunction.{CoreFunction}
use Rattle.c_worlds.specs.declared.program.Program.{Program}
use Rattle.c_worlds.specs.Programs.{unit_of}
use Rattle.lowered_statements.specs.Bodies.{Body}
use Rattle.lowered_statements.specs.FunctionBodies.{low_f}
use Rattle.lowered_units.specs.LoweredUnits.{AreLoweredFunctions, IsLoweredFunction}
use Rattle.lowered_units.specs.Tables.{all_tables, bodies, first_table, table_count, table_objects}
use Rattle.c_lower_stmt.specs.Bodies.{function_in}
use Rattle.c_lower_unit.specs.declared.functions.Lowering.{Lowering}

-- all functions are lowered, behind these objects
pub record IsLowering (p : Program) (own : List LoweredObject) (l : Lowering) : Type 0 where
  pub functions : AreLoweredFunctions 0 (unit_of p).functions (bodies (unit_of p) p.order) l.functions
  pub objects : l.objects ≡ own ++ all_tables 0 (first_table (unit_of p)) (bodies (unit_of p) p.order)
  pub tables : l.tables ≡ table_count (bodies (unit_of p) p.order)

-- the body of the next function, where the tables are named from this name on
abbrev pub next_body : Program → ℕ → CoreFunction → Lowering → Body
next_body p first f l = low_f (unit_of p) p.order (length l.functions) (first + l.tables) (function_in p f)

-- it is lowered
pub record AddsFunction (p : Program) (first : ℕ) (f : CoreFunction) (old new : Lowering) : Type 0 where
  pub function : LoweredFunction
  pub is : IsLoweredFunction (length old.functions) (function_in p f) (next_body p first f old) function
  pub functions : new.functions ≡ old.functions ++ function ∷ []
  pub objects : new.objects ≡ old.objects ++ table_objects (length old.functions) (first + old.tables) (next_body p first f old).tables
  pub tables : new.tables ≡ old.tables + length (next_body p first f old).tables
