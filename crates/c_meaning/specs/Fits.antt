-- What the kinds of checked expressions promise: each has the operands and the type that a row of typing gives it, so that
-- whoever goes over them meets no other. What names stand for is told apart.
-- Source: C89 3.3, 3.2.2.1.
use Rattle.std.specs.Prelude.{◌≡◌, ◌⊎◌, ℕ, zero, suc, ◌+◌, ◌||◌, ◌&&◌, not, Bool, true, false, Option, Some, List, length, if◌then◌else◌}
use Rattle.c_types.specs.CType.{Char, Int, CType, Array, Parameters, Open, Listed, CTypes, NoType, And, basic, qualify, unqualified}
use Rattle.c_types.specs.Conversions.{is_integer, promoted, common}
use Rattle.c_types.specs.Layout.{Tag, extent}
use Rattle.c_types.specs.BitFields.{IsInUnit}
use Rattle.c_types.specs.Members.{MemberAt, member_of}
use Rattle.objects.specs.Arithmetic.{is_shift}
use Rattle.c_meaning.specs.declared.core_expr.Change.{Change}
use Rattle.c_meaning.specs.declared.core_expr.Change.TheVariants as change
use Rattle.c_meaning.specs.declared.core_expr.CoreKind.{CoreKind}
use Rattle.c_meaning.specs.declared.core_expr.CoreKind.TheVariants as kind
use Rattle.c_meaning.specs.CoreTrees.{Core, NoCore, Cores, type_of}
use Rattle.c_meaning.specs.Types.{is_void, is_pointer, is_function, is_array, is_record, is_scalar, target, pointer_to, qualifiers_of, has_size}
use Rattle.c_meaning.specs.Values.{CoreTree, CoreTrees, is_place, is_lvalue, is_bit_field, value, promoted_type}
use Rattle.c_meaning.specs.Scalars.{is_signed, conversion_to}
use Rattle.c_meaning.specs.declared.core_expr.Conversion.{Conversion}
use Rattle.c_meaning.specs.Rows.{result_type, parameters_type, last_type}

-- ---- places and values

-- What an expression is where its value is used: of a scalar no place, which would be read first. A structure or union is a place
-- as it is, and of what is void, and of an array that is no lvalue, nothing is read.
abbrev pub is_value : CoreTree → Bool
is_value c =
    if is_scalar (type_of c) then not (is_place c)
    else is_record (type_of c) || (is_void (type_of c) || (is_array (type_of c) && not (is_lvalue c)))

-- how many of its first parts a kind takes as places, or as the functions that they are
abbrev pub places_taken : CoreKind → ℕ
places_taken (kind.Member offset first width) = 1
places_taken kind.Read = 1
places_taken kind.Address = 1
places_taken kind.First = 1
places_taken kind.Assign = 1
places_taken (kind.Change by) = 1
places_taken (kind.Postfix by) = 1
places_taken what = 0

-- all parts are values behind the first ones
abbrev pub are_values_behind : ℕ → CoreTrees → Bool
are_values_behind n NoCore = true
are_values_behind zero (Cores c cs) = is_value c && are_values_behind zero cs
are_values_behind (suc n) (Cores c cs) = are_values_behind n cs

-- ---- types

-- a scalar, or a structure or union as a whole
abbrev pub is_whole : List Tag → CType → Bool
is_whole tags t = is_scalar t || (is_record t && has_size tags t)

-- the type of an object of so many bytes
abbrev pub HasSize : List Tag → CType → ℕ → Type 0
HasSize tags t size = (extent tags t).size ≡ Some size

-- a number of a type to which the promotions lead
abbrev pub IsPromoted : CType → Type 0
IsPromoted t = (is_integer t ≡ true) × (promoted t ≡ t)

abbrev pub IsScalar : CType → Type 0
IsScalar t = is_scalar t ≡ true

-- a member of the structure or union that stands there, with the qualifiers of the whole; a bit-field lies in its unit
abbrev pub IsMember : List Tag → CType → ℕ → ℕ → ℕ → CType → Type 0
IsMember tags whole offset first width of =
    (name : List ℕ) × (m : MemberAt) × (member_of tags whole name ≡ Some m)
    × ((m.offset ≡ offset) × ((m.first ≡ first) × ((m.width ≡ width) × (IsInUnit m × (qualify (qualifiers_of whole) m.of ≡ of)))))

-- a pointer and an integer, for a sum in either order, and the pointer's type
abbrev pub AreMoved : List Tag → ℕ → Bool → CType → CType → CType → Type 0
AreMoved tags size back of t u =
    (is_pointer of ≡ true) × (HasSize tags (target of) size
    × (((t ≡ of) × IsPromoted u) ⊎ ((back ≡ false) × ((u ≡ of) × IsPromoted t))))

-- both are numbers of one promoted type, or both are pointers
abbrev pub AreCompared : Bool → CType → CType → Type 0
AreCompared signed t u = (IsPromoted t × ((t ≡ u) × (is_signed t ≡ signed))) ⊎ ((is_pointer t ≡ true) × (is_pointer u ≡ true))

-- of a shift each operand is promoted by itself
abbrev pub AreOperands : Bool → CType → CType → CType → Type 0
AreOperands true of t u = IsPromoted of × ((t ≡ of) × IsPromoted u)
AreOperands false of t u = IsPromoted of × ((t ≡ of) × (u ≡ of))

-- The value of a place and a right operand meet at the type of the usual arithmetic conversions, to which the right one was
-- converted. A shift acts at the promoted type of the place's value.
abbrev pub AreChanged : Bool → Bool → CoreTree → CType → Type 0
AreChanged true signed a u = is_signed (promoted_type (value a)) ≡ signed
AreChanged false signed a u = (common (promoted_type (value a)) u ≡ u) × (is_signed u ≡ signed)

-- how a place may be changed, by a value of a type
abbrev pub IsChanged : List Tag → Change → CoreTree → CType → Type 0
IsChanged tags (change.Arithmetic op signed) a u = (is_integer (type_of a) ≡ true) × (IsPromoted u × AreChanged (is_shift op) signed a u)
IsChanged tags (change.Pointer size back) a u = (is_pointer (type_of a) ≡ true) × (HasSize tags (target (type_of a)) size × IsPromoted u)

-- an argument is a scalar or a whole structure
abbrev pub IsArgument : List Tag → CoreTree → Type 0
IsArgument tags v = is_whole tags (type_of v) ≡ true

-- arguments where the parameters are open, or behind them: no narrow numbers
abbrev pub AreOpen : List Tag → CoreTrees → Type 0
AreOpen tags NoCore = Unit {0}
AreOpen tags (Cores v vs) = IsArgument tags v × ((promoted (type_of v) ≡ type_of v) × AreOpen tags vs)

-- as many arguments as parameters, each of the parameter's type, and more behind them where there is `...`
abbrev pub AreListed : List Tag → CTypes → Bool → CoreTrees → Type 0
AreListed tags NoType more NoCore = Unit {0}
AreListed tags NoType more vs = (more ≡ true) × AreOpen tags vs
AreListed tags (And p ps) more NoCore = ⊥
AreListed tags (And p ps) more (Cores v vs) = IsArgument tags v × ((unqualified (type_of v) ≡ unqualified p) × AreListed tags ps more vs)

abbrev pub AreArguments : List Tag → Parameters → CoreTrees → Type 0
AreArguments tags Open vs = AreOpen tags vs
AreArguments tags (Listed ps more) vs = AreListed tags ps more vs

-- what a call gives is no structure that isn't whole
abbrev pub IsGiven : List Tag → CType → Type 0
IsGiven tags t = (is_record t && not (has_size tags t)) ≡ false

-- a conversion: to void of anything, of a scalar to a scalar
abbrev pub IsConverted : Conversion → CType → CType → Type 0
IsConverted conversion of t = (conversion_to of ≡ conversion) × ((is_void of ≡ true) ⊎ (IsScalar of × IsScalar t))

-- What a kind asks of its type and its parts, where it is known of leaves.
abbrev pub IsRow : (CoreKind → CType → Type 0) → List Tag → CoreKind → CType → CoreTrees → Type 0
IsRow leaf tags (kind.Number n) of NoCore = is_integer of ≡ true
IsRow leaf tags kind.Pointed of (Cores p NoCore) = (is_pointer (type_of p) ≡ true) × (target (type_of p) ≡ of)
IsRow leaf tags (kind.Member offset first width) of (Cores a NoCore) = (is_record (type_of a) ≡ true) × IsMember tags (type_of a) offset first width of
IsRow leaf tags kind.Read of (Cores a NoCore) = (is_place a ≡ true) × (IsScalar of × (unqualified (type_of a) ≡ of))
IsRow leaf tags kind.Address of (Cores a NoCore) = ((is_function (type_of a) || (is_lvalue a && not (is_bit_field a))) ≡ true) × (pointer_to (type_of a) ≡ of)
IsRow leaf tags kind.First of (Cores a NoCore) = (is_lvalue a ≡ true) × ((element : CType) × (n : Option ℕ) × (type_of a ≡ Array element n) × (pointer_to element ≡ of))
IsRow leaf tags (kind.Convert conversion) of (Cores a NoCore) = IsConverted conversion of (type_of a)
IsRow leaf tags (kind.Unary op) of (Cores a NoCore) = IsPromoted of × (type_of a ≡ of)
IsRow leaf tags kind.Not of (Cores a NoCore) = (of ≡ basic Int) × IsScalar (type_of a)
IsRow leaf tags (kind.Binary op signed) of (Cores a (Cores b NoCore)) = (is_signed of ≡ signed) × AreOperands (is_shift op) of (type_of a) (type_of b)
IsRow leaf tags (kind.Compare op signed) of (Cores a (Cores b NoCore)) = (of ≡ basic Int) × AreCompared signed (type_of a) (type_of b)
IsRow leaf tags (kind.Move size back) of (Cores a (Cores b NoCore)) = AreMoved tags size back of (type_of a) (type_of b)
IsRow leaf tags (kind.Difference size) of (Cores a (Cores b NoCore)) = (of ≡ basic Int) × ((is_pointer (type_of a) ≡ true) × ((is_pointer (type_of b) ≡ true) × HasSize tags (target (type_of a)) size))
IsRow leaf tags kind.And of (Cores a (Cores b NoCore)) = (of ≡ basic Int) × (IsScalar (type_of a) × IsScalar (type_of b))
IsRow leaf tags kind.Or of (Cores a (Cores b NoCore)) = (of ≡ basic Int) × (IsScalar (type_of a) × IsScalar (type_of b))
IsRow leaf tags kind.Conditional of (Cores a (Cores b (Cores c NoCore))) = IsScalar (type_of a) × (((is_void of || is_whole tags of) ≡ true) × ((unqualified (type_of b) ≡ of) × (unqualified (type_of c) ≡ of)))
IsRow leaf tags kind.Comma of (Cores a kids) = last_type (Cores a kids) ≡ of
IsRow leaf tags kind.Assign of (Cores a (Cores v NoCore)) = (is_lvalue a ≡ true) × ((is_whole tags of ≡ true) × ((unqualified (type_of a) ≡ of) × (unqualified (type_of v) ≡ of)))
IsRow leaf tags (kind.Change by) of (Cores a (Cores w NoCore)) = (is_lvalue a ≡ true) × ((unqualified (type_of a) ≡ of) × IsChanged tags by a (type_of w))
IsRow leaf tags (kind.Postfix by) of (Cores a (Cores w NoCore)) = (is_lvalue a ≡ true) × ((unqualified (type_of a) ≡ of) × IsChanged tags by a (type_of w))
IsRow leaf tags (kind.Call copies) of (Cores f vs) = (is_pointer (type_of f) ≡ true) × ((is_function (target (type_of f)) ≡ true) × ((unqualified (result_type (target (type_of f))) ≡ of) × (IsGiven tags of × AreArguments tags (parameters_type (target (type_of f))) vs)))
IsRow leaf tags what of NoCore = leaf what of
IsRow leaf tags what of kids = ⊥

abbrev mutual
  pub Fits : (CoreKind → CType → Type 0) → List Tag → CoreTree → Type 0
  Fits leaf tags (Core what of line kids) = AllFit leaf tags kids × ((are_values_behind (places_taken what) kids ≡ true) × IsRow leaf tags what of kids)

  pub AllFit : (CoreKind → CType → Type 0) → List Tag → CoreTrees → Type 0
  AllFit leaf tags NoCore = Unit {0}
  AllFit leaf tags (Cores c cs) = Fits leaf tags c × AllFit leaf tags cs

-- ---- while a unit is checked

-- a literal's array, a local object or a symbol; the types of names are those of their declarations in force
abbrev pub IsOpenLeaf : CoreKind → CType → Type 0
IsOpenLeaf (kind.Literal bytes) of = of ≡ Array (basic Char) (Some (length bytes + 1))
IsOpenLeaf (kind.Local place register) of = Unit {0}
IsOpenLeaf (kind.Symbol id) of = Unit {0}
IsOpenLeaf what of = ⊥
