-- Places and values: what an expression of a place or a function is where its value is used.
-- Source: C89 3.2.2.1, 3.2.1.1, 3.2.1.5.
use Rattle.std.specs.Prelude.{ℕ, ◌==◌, Bool, true, false, ◌&&◌, nat_lt, if◌then◌else◌}
use Rattle.c_meaning.specs.declared.core_expr.CoreKind.{CoreKind}
use Rattle.c_meaning.specs.declared.core_expr.CoreKind.TheVariants as kind
use Rattle.c_types.specs.CType.{Void, Int, CType, Plain, Array, Kind, Simple, Function, Structure, Union, Enumeration, CTypes, NoType, And, basic, unqualified}
use Rattle.c_types.specs.Compatible.{basic_place}
use Rattle.c_types.specs.Conversions.{promoted, common}
use Rattle.c_meaning.specs.CoreTrees.{CoreOf, Core, CoresOf, NoCore, Cores, what_of, type_of, line_of, one}
use Rattle.c_meaning.specs.Scalars.{conversion_to}
use Rattle.c_meaning.specs.Types.{pointer_to}

abbrev pub CoreTree : Type 0
CoreTree = CoreOf CType

abbrev pub CoreTrees : Type 0
CoreTrees = CoresOf CType

-- kinds of expressions that stand for places
abbrev pub is_place_kind : CoreKind → Bool
is_place_kind (kind.Local place register) = true
is_place_kind (kind.Object n) = true
is_place_kind (kind.Text n) = true
is_place_kind (kind.Literal bytes) = true
is_place_kind (kind.Symbol id) = true
is_place_kind kind.Pointed = true
is_place_kind (kind.Member offset first width) = true
is_place_kind k = false

-- An expression stands for a place: an object, what a pointer points to, or a member of one.
abbrev pub is_place : CoreTree → Bool
is_place c = is_place_kind (what_of c)

-- It is an lvalue: a place, but no member of a structure that isn't one, as a call's is.
abbrev mutual
  pub is_lvalue : CoreTree → Bool
  is_lvalue (Core (kind.Member offset first width) of line kids) = first_is_lvalue kids
  is_lvalue (Core what of line kids) = is_place_kind what

  pub first_is_lvalue : CoreTrees → Bool
  first_is_lvalue NoCore = false
  first_is_lvalue (Cores c cs) = is_lvalue c

-- it is declared register, or a member of what is
abbrev mutual
  pub is_register : CoreTree → Bool
  is_register (Core (kind.Local place register) of line kids) = register
  is_register (Core (kind.Member offset first width) of line kids) = first_is_register kids
  is_register (Core what of line kids) = false

  pub first_is_register : CoreTrees → Bool
  first_is_register NoCore = false
  first_is_register (Cores c cs) = is_register c

abbrev pub field_width : CoreKind → ℕ
field_width (kind.Member offset first width) = width
field_width k = 0

-- how many bits a bit-field has; 0 of anything else
abbrev pub width_of : CoreTree → ℕ
width_of c = field_width (what_of c)

abbrev pub is_bit_field : CoreTree → Bool
is_bit_field c = nat_lt 0 (width_of c)

-- what a place of this kind holds; a structure stays a place, and of what is void nothing is read
abbrev pub read_of : Kind → CoreTree → CoreTree
read_of (Function result parameters) c = Core kind.Address (pointer_to (type_of c)) (line_of c) (one c)
read_of (Structure n) c = c
read_of (Union n) c = c
read_of (Simple Void) c = c
read_of k c = if is_place c then Core kind.Read (Plain 0 k) (line_of c) (one c) else c

-- an array that is an lvalue becomes a pointer to its first element
abbrev pub value_by : CType → CoreTree → CoreTree
value_by (Array of n) c = if is_lvalue c then Core kind.First (pointer_to of) (line_of c) (one c) else c
value_by (Plain q k) c = read_of k c

-- the value of an expression
abbrev pub value : CoreTree → CoreTree
value c = value_by (type_of c) c

abbrev pub values : CoreTrees → CoreTrees
values NoCore = NoCore
values (Cores c cs) = Cores (value c) (values cs)

abbrev pub value_type : CoreTree → CType
value_type c = type_of (value c)

-- ---- conversions

abbrev pub same_simple : CType → CType → Bool
same_simple (Plain p (Simple a)) (Plain q (Simple b)) = (basic_place a == basic_place b) && ((p == 0) && (q == 0))
same_simple t u = false

-- converted to a type, where it isn't of this simple type
abbrev pub converted : CType → CoreTree → CoreTree
converted to v = if same_simple to (type_of v) then v else Core (kind.Convert (conversion_to to)) to (line_of v) (one v)

-- a bit-field is read
abbrev pub first_width : CoreTrees → ℕ
first_width NoCore = 0
first_width (Cores c cs) = width_of c

abbrev pub read_width : CoreTree → ℕ
read_width (Core kind.Read of line kids) = first_width kids
read_width (Core what of line kids) = 0

-- int holds all values of a bit-field that is narrower than it
abbrev pub is_narrow : ℕ → Bool
is_narrow width = nat_lt 0 width && nat_lt width 32

-- the type to which the integral promotions bring a value
abbrev pub promoted_type : CoreTree → CType
promoted_type v = if is_narrow (read_width v) then basic Int else promoted (type_of v)

abbrev pub promoted_value : CoreTree → CoreTree
promoted_value v = converted (promoted_type v) v

-- the type to which the usual arithmetic conversions bring two values
abbrev pub usual_type : CoreTree → CoreTree → CType
usual_type v w = common (promoted_type v) (promoted_type w)

-- the type of an argument for which there is no parameter (C89 3.3.2.2): only integers change
abbrev pub default_of : Kind → CoreTree → CType
default_of (Simple Void) v = type_of v
default_of (Simple b) v = promoted_type v
default_of (Enumeration n) v = promoted_type v
default_of k v = type_of v

abbrev pub default_type : CType → CoreTree → CType
default_type (Plain q k) v = default_of k v
default_type (Array of n) v = type_of v

-- A value passed without a parameter, or to one of a type. A structure is passed as it is.
abbrev pub passed_to : CType → CoreTree → CoreTree
passed_to (Plain q (Structure n)) v = v
passed_to (Plain q (Union n)) v = v
passed_to to v = converted (unqualified to) v

abbrev pub passed_open : CoreTree → CoreTree
passed_open v = passed_to (default_type (type_of v) v) v

-- as the parameters ask; those behind them, and all where they are open, by the default promotions
abbrev pub all_passed : CTypes → CoreTrees → CoreTrees
all_passed ps NoCore = NoCore
all_passed NoType (Cores v vs) = Cores (passed_open v) (all_passed NoType vs)
all_passed (And p ps) (Cores v vs) = Cores (passed_to p v) (all_passed ps vs)
