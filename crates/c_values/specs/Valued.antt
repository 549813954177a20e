-- Types of values as types of a table, before pointers to arrays' elements and to functions are in it.
use Rattle.std.specs.Prelude.{ℕ, ◌<◌, ◌==◌, Option, Some, None, if◌then◌else◌}
use Rattle.c_types.specs.CType.{CType, Plain, Array, Kind, Simple, qualify}
use Rattle.c_types.specs.Compatible.{basic_place}
use Rattle.c_types.specs.Table.{Table, type_at}
use Rattle.c_meaning.specs.Types.{pointer_to}
use Rattle.c_values.specs.declared.value_type.QualifiedType.{QualifiedType}
use Rattle.c_values.specs.declared.value_type.ValueType.{ValueType}
use Rattle.c_values.specs.declared.value_type.ValueType.TheVariants.{Own, PointerTo}

abbrev pub qualified_in : Table → QualifiedType → CType
qualified_in t q = qualify q.qualifiers.0 (type_at t q.of)

abbrev pub valued : Table → ValueType → CType
valued t (Own id) = type_at t id
valued t (PointerTo to) = pointer_to (qualified_in t to)

-- its place is below this one
abbrev pub IsValueIn : ℕ → ValueType → Type 0
IsValueIn n (Own id) = id < n
IsValueIn n (PointerTo to) = to.of < n

-- the place of a basic type without qualifiers
abbrev pub kind_place : Kind → Option ℕ
kind_place (Simple b) = Some (basic_place b)
kind_place k = None

abbrev pub plain_place : CType → Option ℕ
plain_place (Plain q k) = if q == 0 then kind_place k else None
plain_place (Array of n) = None
