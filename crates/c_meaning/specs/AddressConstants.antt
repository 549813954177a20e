-- Address constants: the address of an object with static storage or of a function, a string's first character, an integer
-- constant as a pointer, and what is moved from there by integer constants and members, inside its object.
-- Source: C89 3.4.
use Rattle.std.specs.Prelude.{ℕ, ℤ, pos, ◌+◌, ◌+ℤ◌, ◌*ℤ◌, neg_ℤ, ◌&&◌, ◌||◌, int_le, Bool, true, false, Option, Some, None, List, length, is_some, if◌then◌else◌}
use Rattle.c_types.specs.CType.{CType}
use Rattle.c_types.specs.Layout.{Tag, extent}
use Rattle.c_meaning.specs.declared.core_expr.CoreKind.TheVariants as kind
use Rattle.c_meaning.specs.declared.core_expr.Conversion.{Conversion}
use Rattle.c_meaning.specs.declared.core_expr.Conversion.TheVariants as to
use Rattle.c_meaning.specs.CoreTrees.{Core, NoCore, Cores, type_of}
use Rattle.c_meaning.specs.Types.{is_pointer, is_function}
use Rattle.c_meaning.specs.Values.{CoreTree, CoreTrees}
use Rattle.c_meaning.specs.Constants.{fold}

-- An offset in something of a size. An object whose size isn't known yet has as many bytes as any object may have. A function,
-- and the nothing to which an integer that was converted points, have none: a pointer to them moves by 0 alone.
pub record Address : Type 0 where
  pub size : ℕ
  pub offset : ℤ

abbrev pub size_or_most : Option ℕ → ℕ
size_or_most (Some size) = size
size_or_most None = 16777216

abbrev pub bytes_of : List Tag → CType → ℕ
bytes_of tags of = if is_function of then 0 else size_or_most (extent tags of).size

abbrev pub start_of : ℕ → Option Address
start_of size = Some (record { size = size; offset = pos 0 })

-- a pointer moves from the first byte of its object to one past the last
abbrev pub moved_to : ℕ → ℤ → Option Address
moved_to size offset = if int_le (pos 0) offset && int_le offset (pos size) then Some (record { size = size; offset = offset }) else None

abbrev pub moved_by : Option Address → Option ℤ → Option Address
moved_by (Some a) (Some by) = moved_to a.size (a.offset +ℤ by)
moved_by a by = None

-- so many elements of a size, forwards or backwards
abbrev pub distance : ℕ → Bool → Option ℤ → Option ℤ
distance size back None = None
distance size true (Some n) = Some (neg_ℤ (pos size *ℤ n))
distance size false (Some n) = Some (pos size *ℤ n)

abbrev pub to_pointer : Conversion → Option Address → Option Address
to_pointer to.Pointer a = a
to_pointer c a = None

abbrev pub or_nothing : Option Address → Option ℤ → Option Address
or_nothing (Some a) n = Some a
or_nothing None (Some n) = start_of 0
or_nothing None None = None

abbrev pub first_is_pointer : CoreTrees → Bool
first_is_pointer NoCore = false
first_is_pointer (Cores c cs) = is_pointer (type_of c)

abbrev pub first_constant : CoreTrees → Option ℤ
first_constant NoCore = None
first_constant (Cores c cs) = fold c

abbrev pub second_constant : CoreTrees → Option ℤ
second_constant NoCore = None
second_constant (Cores c cs) = first_constant cs

abbrev mutual
  -- where a place begins, if that is constant
  pub place_address : List Tag → CoreTree → Option Address
  place_address tags (Core (kind.Symbol id) of line kids) = start_of (bytes_of tags of)
  place_address tags (Core (kind.Literal bytes) of line kids) = start_of (length bytes + 1)
  place_address tags (Core kind.Pointed of line kids) = first_pointer tags kids
  place_address tags (Core (kind.Member offset first width) of line kids) = moved_by (first_place tags kids) (Some (pos offset))
  place_address tags (Core what of line kids) = None

  -- what a pointer is, if that is constant
  pub pointer_address : List Tag → CoreTree → Option Address
  pointer_address tags (Core kind.Address of line kids) = first_place tags kids
  pointer_address tags (Core kind.First of line kids) = first_place tags kids
  pointer_address tags (Core (kind.Convert conversion) of line kids) = to_pointer conversion (or_nothing (first_pointer tags kids) (first_constant kids))
  -- a pointer and an integer, in either order
  pointer_address tags (Core (kind.Move size back) of line kids) =
      if first_is_pointer kids then moved_by (first_pointer tags kids) (distance size back (second_constant kids))
      else moved_by (second_pointer tags kids) (distance size back (first_constant kids))
  pointer_address tags (Core what of line kids) = None

  pub first_place : List Tag → CoreTrees → Option Address
  first_place tags NoCore = None
  first_place tags (Cores c cs) = place_address tags c

  pub first_pointer : List Tag → CoreTrees → Option Address
  first_pointer tags NoCore = None
  first_pointer tags (Cores c cs) = pointer_address tags c

  pub second_pointer : List Tag → CoreTrees → Option Address
  second_pointer tags NoCore = None
  second_pointer tags (Cores c cs) = first_pointer tags cs

-- a value that a static object may begin with: an integer constant or an address constant
abbrev pub is_static_value : List Tag → CoreTree → Bool
is_static_value tags v = is_some (fold v) || is_some (pointer_address tags v)
