-- What a unit has so far, over a table of types.
use Rattle.std.specs.Prelude.{◌<◌, ℕ, List, [], ◌∷◌, map}
use Rattle.c_types.specs.Table.{Table, types}
use Rattle.c_meaning.specs.StmtTrees.{IsStmtIn, stmt_of}
use Rattle.c_meaning.specs.Units.{function_seen}
use Rattle.c_check_decl.specs.Declares.{AreLinkedIn, AreLocalsIn, AreObjectsIn, defined_in, linked_in}
use Rattle.c_units.specs.Externals.{Parts}
use Rattle.c_units.specs.Functions.{DefinedFunction as FunctionTrees}
use Rattle.c_unit_parts.specs.declared.DefinedFunction.{DefinedFunction}
use Rattle.c_unit_parts.specs.declared.UnitParts.{UnitParts}

abbrev pub function_in : Table → DefinedFunction → FunctionTrees
function_in t f = record { symbol = f.symbol; function = function_seen (types t) f.function }

abbrev pub parts_in : Table → UnitParts → Parts
parts_in t p = record { functions = map (function_in t) p.functions; objects = map (defined_in t) p.objects; linked = map (linked_in t) p.linked }

-- ---- their types stand below this place

pub record IsFunctionIn (n : ℕ) (f : DefinedFunction) : Type 0 where
  pub of : f.function.of < n
  pub locals : AreLocalsIn n f.function.locals
  pub body : IsStmtIn n (stmt_of f.function.body)

abbrev pub AreFunctionsIn : ℕ → List DefinedFunction → Type 0
AreFunctionsIn n [] = Unit {0}
AreFunctionsIn n (f ∷ fs) = IsFunctionIn n f × AreFunctionsIn n fs

pub record ArePartsIn (n : ℕ) (p : UnitParts) : Type 0 where
  pub functions : AreFunctionsIn n p.functions
  pub objects : AreObjectsIn n p.objects
  pub linked : AreLinkedIn n p.linked
