-- What the assembly of a unit is, without a word on registers, slots or frames: its functions stand one behind the other,
-- each by the best derivations of its forest, and each within its bounds; and its data have at most the bytes of the unit's
-- objects.
use Rattle.std.specs.Prelude.{◌≡◌, ◌≤◌, ℕ, ◌+◌, ◌*◌, ◌/◌, List, [], map, get_or, sum_by}
use Rattle.std.specs.List.{AllZip}
use Rattle.lburg_model.specs.Derivation.{MDerivation}
use Rattle.lburg_model.specs.Description.{MDescription}
use Rattle.reducer.specs.AreBest.{AreBest}
use Rattle.asm_text.specs.Program.{MProgram, data_size}
use Rattle.op_forest.specs.declared.lowered.LoweredFunction.{LoweredFunction}
use Rattle.op_forest.specs.declared.lowered.LoweredObject.{LoweredObject}
use Rattle.op_forest.specs.Lowered.{LoweredUnit}
use Rattle.op_forest.specs.Nodes.{nodes, tree_of}
use Rattle.mips_rules.specs.Shipped.{IsShipped}
use Rattle.mips_target.specs.Bounds.{KeepsBounds}
use Rattle.mips_target.specs.Emits.{Emits}
use Rattle.unit_text.specs.Entries.{codes_of, HasEntry}
use Rattle.mips_target.specs.Generated.{frame_bound, code_bound}
use Rattle.unit_text.specs.UnitLines.{Coded}

-- room for a function's frame and code, by the nodes of its forest
pub record HasBounds (room most : LoweredFunction → ℕ) (f : LoweredFunction) : Type 0 where
  pub frame : frame_bound (sum_by nodes f.forest.roots) ≤ room f
  pub code : code_bound (sum_by nodes f.forest.roots) ≤ most f

-- A function of a program: its name is a label at its first instruction, its code is the templates of the best
-- derivations of its forest's roots by the shipped description, and it keeps its bounds of bytes and instructions.
pub record IsFunctionAssembly (room most : ℕ) (names : List (List ℕ)) (p : MProgram) (f : LoweredFunction) (c : Coded) : Type 0 where
  pub name : c.name ≡ get_or names f.name []
  pub place : HasEntry p c
  pub description : MDescription
  pub shipped : IsShipped description
  pub derivations : List MDerivation
  pub best : AreBest description (map tree_of f.forest.roots) derivations
  pub frame : ℕ
  pub framed : frame ≤ room
  pub emits : Emits names c.labels frame derivations f.forest.roots c.items
  pub bounds : KeepsBounds room most p place.entry c.items

-- the next multiple of 8
abbrev pub rounded : ℕ → ℕ
rounded n = 8 * ((n + 7) / 8)

-- room for these objects, each rounded up
abbrev pub object_bytes : List LoweredObject → ℕ
object_bytes objects = sum_by (λ o. rounded o.size) objects

-- the program is the unit's functions in order, and data for its objects
pub record IsUnitAssembly (room most : LoweredFunction → ℕ) (u : LoweredUnit) (p : MProgram) : Type 0 where
  pub functions : List Coded
  pub code : p.code ≡ codes_of functions
  pub few_data : data_size p.datums ≤ object_bytes u.objects
  pub each : AllZip (λ f c. IsFunctionAssembly (room f) (most f) u.names p f c) u.functions functions
