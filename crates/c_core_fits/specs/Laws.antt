-- A typed unit, made whole, keeps what a checked unit promises.
use Rattle.c_ast.specs.Levels.{FitsExternals}
use Rattle.c_ast.specs.Trees.{UnitTree}
use Rattle.c_meaning.specs.State.{State}
use Rattle.c_meaning.specs.Units as units
use Rattle.c_tree_names.specs.Names.{AllExternalNames}
use Rattle.c_units.specs.UnitsRelation.{TypesUnit}
use Rattle.c_core_fits.specs.Counted.{IsCounted}

-- a unit of the grammar that is typed without a fault, whose numbers have 32 bits
abbrev pub TypedUnitsAreUnits : Type 0
TypedUnitsAreUnits = (t : UnitTree) (s : State) (u : units.UnitTree) → FitsExternals t.externals → AllExternalNames t.externals → TypesUnit t s u → IsCounted u → units.IsUnit u
