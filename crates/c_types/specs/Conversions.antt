-- The integral promotions (C89 3.2.1.1) and the usual arithmetic conversions (C89 3.2.1.5), where char has 8
-- bits, short 16, int and long 32, and an enumeration is int.
use Rattle.std.specs.Prelude.{Bool, true, false}
use Rattle.c_types.specs.CType.{Basic, Void, Char, SignedChar, UnsignedChar, Short, UnsignedShort, Int, Unsigned, Long, UnsignedLong, CType, Plain, Simple, Enumeration, basic}

-- the integer types: char, the signed and unsigned integer types, and the enumerations, qualified or not
abbrev pub is_integer : CType → Bool
is_integer (Plain q (Simple Void)) = false
is_integer (Plain q (Simple b)) = true
is_integer (Plain q (Enumeration n)) = true
is_integer t = false

-- int holds all values of the narrower types, so it takes their place; other types stay
abbrev pub promoted_basic : Basic → Basic
promoted_basic Void = Void
promoted_basic Char = Int
promoted_basic SignedChar = Int
promoted_basic UnsignedChar = Int
promoted_basic Short = Int
promoted_basic UnsignedShort = Int
promoted_basic Int = Int
promoted_basic Unsigned = Unsigned
promoted_basic Long = Long
promoted_basic UnsignedLong = UnsignedLong

abbrev pub promoted : CType → CType
promoted (Plain q (Simple b)) = basic (promoted_basic b)
promoted (Plain q (Enumeration n)) = basic Int
promoted t = t

-- the common type of two promoted ones: unsigned long before long before unsigned before int, but of long and
-- unsigned, of which long doesn't hold all values, unsigned long
abbrev pub common_basic : Basic → Basic → Basic
common_basic UnsignedLong b = UnsignedLong
common_basic Long UnsignedLong = UnsignedLong
common_basic Long Unsigned = UnsignedLong
common_basic Long b = Long
common_basic Unsigned UnsignedLong = UnsignedLong
common_basic Unsigned Long = UnsignedLong
common_basic Unsigned b = Unsigned
common_basic a b = b

abbrev pub common : CType → CType → CType
common (Plain p (Simple a)) (Plain q (Simple b)) = basic (common_basic a b)
common s t = s

abbrev pub usual : CType → CType → CType
usual a b = common (promoted a) (promoted b)
