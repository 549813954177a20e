-- Places: where objects of the unit and of the running call are; what a place of a type holds, and how it is written.
-- Source: ISO/IEC 9899:1990, 6.3.2.3, 6.3.3.2, 6.3.16, 6.5.7.
use Rattle.std.specs.Prelude.{ℕ, ◌+◌, ◌==◌, Bool, true, false, Option, Some, None, List, length, Result, Ok, if◌then◌else◌}
use Rattle.lcc_base.specs.declared.cause.Cause.{Cause}
use Rattle.lcc_base.specs.declared.order.Order.{Order}
use Rattle.objects.specs.declared.field.Field.{Field}
use Rattle.objects.specs.declared.purpose.Purpose.{Purpose}
use Rattle.objects.specs.declared.purpose.Purpose.TheVariants.{Initialisation}
use Rattle.objects.specs.declared.value.Value.{Value}
use Rattle.objects.specs.declared.value.Value.TheVariants.{Number, Pointer}
use Rattle.objects.specs.Objects.{Object}
use Rattle.objects.specs.Accesses.{read, written, field_read, field_written, bytes_written, read_cause, number_or_zero, if_none}
use Rattle.objects.specs.Conversions.{extended}
use Rattle.objects.specs.Copies.{copied}
use Rattle.c_types.specs.CType.{CType}
use Rattle.c_types.specs.Layout.{Tag, extent, size_or_zero}
use Rattle.c_meaning.specs.declared.core_expr.CoreKind.{CoreKind}
use Rattle.c_meaning.specs.declared.core_expr.CoreKind.TheVariants as kind
use Rattle.c_meaning.specs.CoreTrees.{Core}
use Rattle.c_meaning.specs.StmtTrees.{FilledOf}
use Rattle.c_meaning.specs.Scalars.{scalar_of, is_signed}
use Rattle.c_meaning.specs.Units.{ObjectTree, UnitTree}
use Rattle.c_meaning.specs.Values.{CoreTree}

-- ---- objects of the unit: they are the world's first, the texts behind the others

abbrev pub size_of : List Tag → CType → ℕ
size_of tags t = size_or_zero (extent tags t).size

abbrev pub align_of : List Tag → CType → ℕ
align_of tags t = (extent tags t).align

abbrev pub static_place : ℕ → ℕ → Value
static_place place size = Pointer (record { place = place; made = place; size = size }) 0

abbrev pub place_of_object : UnitTree → ℕ → Option ObjectTree → Option Value
place_of_object u n None = None
place_of_object u n (Some o) = Some (static_place n (size_of u.tags o.of))

abbrev pub place_of_text : UnitTree → ℕ → Option (List ℕ) → Option Value
place_of_text u n None = None
place_of_text u n (Some bytes) = Some (static_place (length u.objects + n) (length bytes + 1))

-- ---- what stands at a place

-- its type, and where it is a bit-field, how many bits of its unit were filled before it, and its width, else 0
pub record Spot : Type 0 where
  pub of : CType
  pub first : ℕ
  pub width : ℕ

abbrev pub spot_by : CoreKind → CType → Spot
spot_by (kind.Member offset first width) of = record { of = of; first = first; width = width }
spot_by what of = record { of = of; first = 0; width = 0 }

-- that of an expression of a place
abbrev pub spot_of : CoreTree → Spot
spot_of (Core what of line kids) = spot_by what of

-- that of an initialiser's place
abbrev pub spot_filled : FilledOf CType → Spot
spot_filled p = record { of = p.of; first = p.first; width = p.width }

abbrev pub is_field : Spot → Bool
is_field x = if x.width == 0 then false else true

abbrev pub field_of : Spot → Field
field_of x = record { first = x.first; width = x.width; signed = is_signed x.of }

-- a scalar or bit-field read
abbrev pub held : Order → Spot → List Object → Value → Result Value Cause
held order x objects p = if is_field x then field_read order (field_of x) objects p else read order (scalar_of x.of) objects p

-- the objects once a value of its type is written there
abbrev pub stored : Purpose → Order → Spot → Value → List Object → Value → Result (List Object) Cause
stored purpose order x v objects p = if is_field x then field_written purpose order (field_of x) v objects p else written purpose order (scalar_of x.of).width v objects p

-- what the place holds then: of a bit-field its low bits, as a number of its type
abbrev pub kept : Spot → Value → Value
kept x v = if is_field x then Number (extended (is_signed x.of) x.width (number_or_zero v)) else v

-- ---- structures

-- nothing, or why a structure can't be read
abbrev pub source : List Tag → CType → List Object → Value → Result Value Cause
source tags of objects from = if_none (read_cause objects from (size_of tags of) (align_of tags of)) (Ok from)

abbrev pub assigned : Purpose → List Tag → CType → List Object → Value → Value → Result (List Object) Cause
assigned purpose tags of objects from to = copied purpose objects from to (size_of tags of) (align_of tags of)

-- ---- arrays that strings fill

-- an array of characters gets these bytes, all known
abbrev pub spelled : List Object → Value → List ℕ → Result (List Object) Cause
spelled objects to bytes = bytes_written Initialisation bytes objects to
