-- Compatible types (C89 3.1.2.6, 3.5.2.2, 3.5.3, 3.5.4.1 to 3.5.4.3).
use Rattle.std.specs.Prelude.{ℕ, Bool, true, false, not, ◌&&◌, nat_eq, Option, Some}
use Rattle.c_types.specs.CType.{Basic, Void, Char, SignedChar, UnsignedChar, Short, UnsignedShort, Int, Unsigned, Long, UnsignedLong, CType, Plain, Array, Kind, Simple, Pointer, Function, Structure, Union, Enumeration, Parameters, Open, Listed, CTypes, NoType, And}
use Rattle.c_types.specs.Conversions.{promoted_basic}

-- the place of a basic type, by which two are the same
abbrev pub basic_place : Basic → ℕ
basic_place Void = 0
basic_place Char = 1
basic_place SignedChar = 2
basic_place UnsignedChar = 3
basic_place Short = 4
basic_place UnsignedShort = 5
basic_place Int = 6
basic_place Unsigned = 7
basic_place Long = 8
basic_place UnsignedLong = 9

-- both sizes of arrays are the same, where both are known
abbrev pub lengths_fit : Option ℕ → Option ℕ → Bool
lengths_fit (Some n) (Some m) = nat_eq n m
lengths_fit n m = true

abbrev pub same_flag : Bool → Bool → Bool
same_flag true b = b
same_flag false b = not b

-- a basic type is compatible with itself, and int with each enumeration
abbrev pub is_int : Kind → Bool
is_int (Simple b) = nat_eq (basic_place b) 6
is_int k = false

-- the default argument promotions keep the type: they make one of it that it is compatible with
abbrev pub is_kept : CType → Bool
is_kept (Plain q (Simple b)) = nat_eq (basic_place b) (basic_place (promoted_basic b))
is_kept t = true

abbrev pub all_kept : CTypes → Bool
all_kept NoType = true
all_kept (And a as') = is_kept a && all_kept as'

abbrev mutual
  -- the qualifiers are the same, and the types under them are compatible; of arrays the elements
  pub compatible : CType → CType → Bool
  compatible (Plain p a) (Plain q b) = nat_eq p q && kinds_compatible a b
  compatible (Array a n) (Array b m) = compatible a b && lengths_fit n m
  compatible a b = false

  -- structures, unions and enumerations are compared by identity
  pub kinds_compatible : Kind → Kind → Bool
  kinds_compatible (Simple a) (Simple b) = nat_eq (basic_place a) (basic_place b)
  kinds_compatible (Simple a) (Enumeration n) = nat_eq (basic_place a) 6
  kinds_compatible (Pointer a) (Pointer b) = compatible a b
  kinds_compatible (Function a ps) (Function b qs) = compatible a b && parameters_compatible ps qs
  kinds_compatible (Structure n) (Structure m) = nat_eq n m
  kinds_compatible (Union n) (Union m) = nat_eq n m
  kinds_compatible (Enumeration n) (Enumeration m) = nat_eq n m
  kinds_compatible (Enumeration n) k = is_int k
  kinds_compatible a b = false

  -- lists agree in number, types and `...`; a list beside open parameters has no `...`, and the default
  -- argument promotions keep its types
  pub parameters_compatible : Parameters → Parameters → Bool
  parameters_compatible Open Open = true
  parameters_compatible (Listed ps more) Open = not more && all_kept ps
  parameters_compatible Open (Listed qs more) = not more && all_kept qs
  parameters_compatible (Listed ps more) (Listed qs others) = same_flag more others && all_compatible ps qs

  pub all_compatible : CTypes → CTypes → Bool
  all_compatible NoType NoType = true
  all_compatible (And a as') (And b bs) = compatible a b && all_compatible as' bs
  all_compatible as' bs = false

-- the kind beside a type that may be an array
abbrev pub kind_compatible : Kind → CType → Bool
kind_compatible k (Plain q b) = kinds_compatible k b
kind_compatible k (Array b m) = false
