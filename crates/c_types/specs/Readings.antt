-- Which form a type has under its qualifiers.
use Rattle.std.specs.Prelude.{Bool, true, false}
use Rattle.c_types.specs.CType.{CType, Plain, Array, Pointer, Function, Enumeration}

abbrev pub is_array : CType → Bool
is_array (Array of length) = true
is_array t = false

abbrev pub is_pointer : CType → Bool
is_pointer (Plain q (Pointer to)) = true
is_pointer t = false

abbrev pub is_function : CType → Bool
is_function (Plain q (Function result parameters)) = true
is_function t = false

abbrev pub is_enumeration : CType → Bool
is_enumeration (Plain q (Enumeration number)) = true
is_enumeration t = false
