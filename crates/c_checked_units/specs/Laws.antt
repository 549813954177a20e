-- Checked units are such.
-- Source: ISO/IEC 9899:1990, 6.6.4.2, 6.6.6, 6.7.1.
use Rattle.std.specs.Prelude.{◌<◌, ◌+◌, ℕ, List, length}
use Rattle.c_ast.specs.Levels.{FitsExternals}
use Rattle.c_ast.specs.Trees as tree
use Rattle.c_types.specs.Facts.{IsWithin}
use Rattle.c_types.specs.Layout.{known}
use Rattle.c_types.specs.Table.{Table, tags, type_at}
use Rattle.c_meaning.specs.Each.{EachIs}
use Rattle.c_meaning.specs.State.{State}
use Rattle.c_meaning.specs.Units.{CoreUnit, IsWhole, UnitTree, unit_seen}
use Rattle.c_tree_names.specs.Names.{AllExternalNames}
use Rattle.c_units.specs.UnitsRelation.{TypesUnit}
use Rattle.lowering_limits.specs.Limits as limits
use Rattle.c_checked_units.specs.Checked.{HasOwnJumps, IsCheckedUnit}
use Rattle.c_checked_units.specs.Moves.{IsObjectSize}

-- in a unit that is typed without a fault
abbrev pub TypedUnitsHaveOwnJumps : Type 0
TypedUnitsHaveOwnJumps = (t : tree.UnitTree) (s : State) (u : UnitTree) → TypesUnit t s u → EachIs HasOwnJumps u.functions

-- each type of a table keeps the limits
abbrev pub KeepsLimits : Table → Type 0
KeepsLimits t = (id : ℕ) → id < length t.forms → IsWithin (known (tags t)) (type_at t id)

-- a unit of the grammar that is typed without a fault, made whole over such a table
abbrev pub TypedUnitsAreChecked : Type 0
TypedUnitsAreChecked =
    (t : tree.UnitTree) (s : State) (u : CoreUnit) → FitsExternals t.externals → AllExternalNames t.externals → TypesUnit t s (unit_seen u) → IsWhole u → KeepsLimits u.types
    → IsCheckedUnit (unit_seen u)

-- the texts of a unit that keeps the limits of the lowering, each with its null
abbrev pub TextsAreShort : Type 0
TextsAreShort = (u : UnitTree) → limits.IsWithin u → EachIs (λ (t : List ℕ). IsObjectSize (length t + 1)) u.texts
