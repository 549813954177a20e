-- The widths and signs of scalar types, and what a conversion to a type is.
-- Source: C89 3.1.2.5; char has 8 bits and a sign, short 16, int, long and pointers 32, and an enumeration is int.
use Rattle.std.specs.Prelude.{Bool, true, false}
use Rattle.objects.specs.declared.width.Scalar.{Scalar}
use Rattle.objects.specs.declared.width.Width.{Width}
use Rattle.objects.specs.declared.width.Width.TheVariants.{One, Two, Four}
use Rattle.c_types.specs.CType.{Basic, Void, Char, SignedChar, UnsignedChar, Short, UnsignedShort, Int, Unsigned, Long, UnsignedLong, CType, Plain, Array, Kind, Simple, Enumeration}
use Rattle.c_meaning.specs.declared.core_expr.Conversion.{Conversion}
use Rattle.c_meaning.specs.declared.core_expr.Conversion.TheVariants as to

abbrev scalar : Width → Bool → Scalar
scalar width signed = record { width = width; signed = signed }

-- the width and the sign of a scalar type; a pointer is a word without a sign
abbrev pub basic_scalar : Basic → Scalar
basic_scalar Void = scalar Four false
basic_scalar Char = scalar One true
basic_scalar SignedChar = scalar One true
basic_scalar UnsignedChar = scalar One false
basic_scalar Short = scalar Two true
basic_scalar UnsignedShort = scalar Two false
basic_scalar Int = scalar Four true
basic_scalar Unsigned = scalar Four false
basic_scalar Long = scalar Four true
basic_scalar UnsignedLong = scalar Four false

abbrev pub kind_scalar : Kind → Scalar
kind_scalar (Simple b) = basic_scalar b
kind_scalar (Enumeration n) = scalar Four true
kind_scalar k = scalar Four false

abbrev pub scalar_of : CType → Scalar
scalar_of (Plain q k) = kind_scalar k
scalar_of (Array of n) = scalar Four false

abbrev pub is_signed : CType → Bool
is_signed t = (scalar_of t).signed

abbrev pub kind_conversion : Kind → Conversion
kind_conversion (Simple Void) = to.Void
kind_conversion (Simple b) = to.Integer (basic_scalar b)
kind_conversion (Enumeration n) = to.Integer (scalar Four true)
kind_conversion k = to.Pointer

abbrev pub conversion_to : CType → Conversion
conversion_to (Plain q k) = kind_conversion k
conversion_to (Array of n) = to.Pointer
