-- Kinds of types, as the rules of expressions ask for them.
-- Source: C89 3.1.2.5, 3.2.2.1.
use Rattle.std.specs.Prelude.{ℕ, ◌==◌, Bool, true, false, ◌||◌, bit_or, List, is_some}
use Rattle.c_types.specs.CType.{Void, CType, Plain, Array, Kind, Simple, Pointer, Function, Structure, Union, basic, unqualified}
use Rattle.c_types.specs.Compatible.{compatible}
use Rattle.c_types.specs.Conversions.{is_integer}
use Rattle.c_types.specs.Layout.{Tag, extent}

abbrev pub is_void_kind : Kind → Bool
is_void_kind (Simple Void) = true
is_void_kind k = false

abbrev pub is_void : CType → Bool
is_void (Plain q k) = is_void_kind k
is_void (Array of n) = false

abbrev pub is_pointer_kind : Kind → Bool
is_pointer_kind (Pointer to) = true
is_pointer_kind k = false

abbrev pub is_pointer : CType → Bool
is_pointer (Plain q k) = is_pointer_kind k
is_pointer (Array of n) = false

abbrev pub is_function_kind : Kind → Bool
is_function_kind (Function result parameters) = true
is_function_kind k = false

abbrev pub is_function : CType → Bool
is_function (Plain q k) = is_function_kind k
is_function (Array of n) = false

abbrev pub is_record_kind : Kind → Bool
is_record_kind (Structure n) = true
is_record_kind (Union n) = true
is_record_kind k = false

-- a structure or a union
abbrev pub is_record : CType → Bool
is_record (Plain q k) = is_record_kind k
is_record (Array of n) = false

abbrev pub is_array : CType → Bool
is_array (Array of n) = true
is_array (Plain q k) = false

abbrev pub is_scalar : CType → Bool
is_scalar t = is_integer t || is_pointer t

-- what a pointer points to; void of anything else
abbrev pub kind_target : Kind → CType
kind_target (Pointer to) = to
kind_target k = basic Void

abbrev pub target : CType → CType
target (Plain q k) = kind_target k
target (Array of n) = basic Void

abbrev pub pointer_to : CType → CType
pointer_to t = Plain 0 (Pointer t)

-- An array has no qualifiers of its own (C89 3.5.3).
abbrev pub qualifiers_of : CType → ℕ
qualifiers_of (Plain q k) = q
qualifiers_of (Array of n) = 0

-- the first set of qualifiers holds the second one
abbrev pub holds_qualifiers : ℕ → ℕ → Bool
holds_qualifiers more q = bit_or more q == more

-- compatible when their own qualifiers are left away
abbrev pub alike : CType → CType → Bool
alike a b = compatible (unqualified a) (unqualified b)

-- the type is that of an object, and complete
abbrev pub has_size : List Tag → CType → Bool
has_size tags t = is_some (extent tags t).size
