-- Constants and null pointer constants are scalars.
use Rattle.std.proofs.Common.{◌≡◌, ◌⊎◌, ℕ, zero, suc, Bool, true, false, List, refl, sym, ap, ◌∙◌, inl, inr}
use Rattle.std.specs.Prelude.{Option, None, if◌then◌else◌, ℤ}
use Rattle.std.specs.Option.{option_map}
use Rattle.objects.specs.Arithmetic.{is_shift}
use Rattle.c_types.specs.CType.{Void, Int, CType, Plain, Array, Simple, Pointer, Enumeration, basic, unqualified}
use Rattle.c_types.specs.Conversions.{is_integer}
use Rattle.c_types.specs.Layout.{Tag}
use Rattle.c_meaning.specs.declared.core_expr.Conversion.{Conversion}
use Rattle.c_meaning.specs.declared.core_expr.CoreKind.TheVariants as kind
use Rattle.c_meaning.specs.CoreTrees.{Core, NoCore, Cores, type_of}
use Rattle.c_meaning.specs.Constants.{is_constant, all_constant, is_to_integer, fold, word, number_in, is_zero, is_zero_number, is_null, is_cast_zero, is_first_zero, is_plain_void_pointer}
use Rattle.c_meaning.specs.Types.{is_pointer, is_scalar}
use Rattle.c_meaning.specs.Scalars.{conversion_to}
use Rattle.c_meaning.specs.Values.{CoreTree, CoreTrees}
use Rattle.c_meaning.specs.Fits.{AreOperands, IsOpenLeaf, IsRow}
use Rattle.c_fits.specs.Laws.{Fit}
use Rattle.c_fits.proofs.lemmas.Booleans.{never, and_left, and_right, or_cases}
use Rattle.c_fits.proofs.lemmas.Numbers.{integer_scalar, pointer_scalar}

-- what is converted to an integer type has it
to_integer : (t : CType) → is_to_integer (conversion_to t) ≡ true → is_integer t ≡ true
to_integer (Plain q (Simple Void)) h = h
to_integer (Plain q (Simple b)) h = refl
to_integer (Plain q (Enumeration n)) h = refl
to_integer (Plain q k) h = h
to_integer (Array of n) h = h

int_is : (t : CType) → t ≡ basic Int → is_integer t ≡ true
int_is t h = rw h

pub integer_bare : (t : CType) → is_integer t ≡ true → is_integer (unqualified t) ≡ true
integer_bare (Plain q (Simple Void)) h = h
integer_bare (Plain q (Simple b)) h = refl
integer_bare (Plain q (Enumeration n)) h = refl
integer_bare (Plain q k) h = h
integer_bare (Array of n) h = h

operands_integer : (shift : Bool) (of t u : CType) → AreOperands shift of t u → is_integer of ≡ true
operands_integer true of t u h = h.0.0
operands_integer false of t u h = h.0.0

module _ (tags : List Tag) (of : CType) where
  number_row : (n : ℕ) (kids : CoreTrees) → IsRow IsOpenLeaf tags (kind.Number n) of kids → is_integer of ≡ true
  number_row n NoCore h = h
  number_row n (Cores a cs) h = absurd h

  convert_row : (conversion : Conversion) (kids : CoreTrees) → IsRow IsOpenLeaf tags (kind.Convert conversion) of kids → is_to_integer conversion ≡ true → is_integer of ≡ true
  convert_row conversion NoCore h k = absurd h
  convert_row conversion (Cores a NoCore) h k = to_integer of (ap is_to_integer h.0 ∙ k)
  convert_row conversion (Cores a (Cores b cs)) h k = absurd h

  unary_row : (op : _) (kids : CoreTrees) → IsRow IsOpenLeaf tags (kind.Unary op) of kids → is_integer of ≡ true
  unary_row op NoCore h = absurd h
  unary_row op (Cores a NoCore) h = h.0.0
  unary_row op (Cores a (Cores b cs)) h = absurd h

  not_row : (kids : CoreTrees) → IsRow IsOpenLeaf tags kind.Not of kids → is_integer of ≡ true
  not_row NoCore h = absurd h
  not_row (Cores a NoCore) h = int_is of h.0
  not_row (Cores a (Cores b cs)) h = absurd h

  binary_row : (op : _) (signed : Bool) (kids : CoreTrees) → IsRow IsOpenLeaf tags (kind.Binary op signed) of kids → is_integer of ≡ true
  binary_row op signed NoCore h = absurd h
  binary_row op signed (Cores a NoCore) h = absurd h
  binary_row op signed (Cores a (Cores b NoCore)) h = operands_integer (is_shift op) of (type_of a) (type_of b) h.1
  binary_row op signed (Cores a (Cores b (Cores c cs))) h = absurd h

  compare_row : (op : _) (signed : Bool) (kids : CoreTrees) → IsRow IsOpenLeaf tags (kind.Compare op signed) of kids → is_integer of ≡ true
  compare_row op signed NoCore h = absurd h
  compare_row op signed (Cores a NoCore) h = absurd h
  compare_row op signed (Cores a (Cores b NoCore)) h = int_is of h.0
  compare_row op signed (Cores a (Cores b (Cores c cs))) h = absurd h

  and_row : (kids : CoreTrees) → IsRow IsOpenLeaf tags kind.And of kids → is_integer of ≡ true
  and_row NoCore h = absurd h
  and_row (Cores a NoCore) h = absurd h
  and_row (Cores a (Cores b NoCore)) h = int_is of h.0
  and_row (Cores a (Cores b (Cores c cs))) h = absurd h

  or_row : (kids : CoreTrees) → IsRow IsOpenLeaf tags kind.Or of kids → is_integer of ≡ true
  or_row NoCore h = absurd h
  or_row (Cores a NoCore) h = absurd h
  or_row (Cores a (Cores b NoCore)) h = int_is of h.0
  or_row (Cores a (Cores b (Cores c cs))) h = absurd h

-- an integer constant expression is of an integer type
pub constant_integer : (tags : List Tag) (c : CoreTree) → Fit tags c → is_constant c ≡ true → is_integer (type_of c) ≡ true
constant_integer tags (Core (kind.Number n) of line kids) h k = number_row tags of n kids h.1.1
constant_integer tags (Core (kind.Convert conversion) of line kids) h k = convert_row tags of conversion kids h.1.1 (and_left (is_to_integer conversion) (all_constant kids) k)
constant_integer tags (Core (kind.Unary op) of line kids) h k = unary_row tags of op kids h.1.1
constant_integer tags (Core kind.Not of line kids) h k = not_row tags of kids h.1.1
constant_integer tags (Core (kind.Binary op signed) of line kids) h k = binary_row tags of op signed kids h.1.1
constant_integer tags (Core (kind.Compare op signed) of line kids) h k = compare_row tags of op signed kids h.1.1
constant_integer tags (Core kind.And of line kids) h k = and_row tags of kids h.1.1
constant_integer tags (Core kind.Or of line kids) h k = or_row tags of kids h.1.1
constant_integer tags (Core kind.Conditional of line (Cores a (Cores b (Cores c NoCore)))) h k =
    let e = constant_integer tags b h.0.1.0 (and_left (is_constant b) (all_constant (Cores c NoCore)) (and_right (is_constant a) (all_constant (Cores b (Cores c NoCore))) k)) in
    ap is_integer (sym h.1.1.1.1.0) ∙ integer_bare (type_of b) e
constant_integer tags (Core kind.Conditional of line NoCore) h k = absurd h.1.1
constant_integer tags (Core kind.Conditional of line (Cores a NoCore)) h k = absurd h.1.1
constant_integer tags (Core kind.Conditional of line (Cores a (Cores b NoCore))) h k = absurd h.1.1
constant_integer tags (Core kind.Conditional of line (Cores a (Cores b (Cores c (Cores d cs))))) h k = absurd h.1.1
constant_integer tags (Core what of line kids) h k = never (sym k)

-- ---- null pointer constants

zero_constant : (c : CoreTree) → is_zero c ≡ true → is_constant c ≡ true
unfolding fold
zero_constant c h = by (is_constant c) (option_map (number_in (type_of c)) (word c)) h
  where
    by : (b : Bool) (o : Option ℤ) → is_zero_number (if b then o else None) ≡ true → b ≡ true
    by true o h = refl
    by false o h = h

plain_pointer : (t : CType) → is_plain_void_pointer t ≡ true → is_pointer t ≡ true
plain_pointer (Plain zero (Pointer to)) h = refl
plain_pointer (Plain zero k) h = never (sym h)
plain_pointer (Plain (suc q) k) h = never (sym h)
plain_pointer (Array of n) h = never (sym h)

cast_pointer : (c : CoreTree) → is_cast_zero c ≡ true → is_pointer (type_of c) ≡ true
cast_pointer (Core (kind.Convert conversion) of line kids) h = plain_pointer of (and_left (is_plain_void_pointer of) (is_first_zero kids) h)
cast_pointer (Core what of line kids) h = never (sym h)

pub null_scalar : (tags : List Tag) (v : CoreTree) → Fit tags v → is_null v ≡ true → is_scalar (type_of v) ≡ true
null_scalar tags v f h = by (or_cases (is_zero v) (is_cast_zero v) h)
  where
    by : (is_zero v ≡ true) ⊎ (is_cast_zero v ≡ true) → is_scalar (type_of v) ≡ true
    by (inl k) = integer_scalar (type_of v) (constant_integer tags v f (zero_constant v k))
    by (inr k) = pointer_scalar (type_of v) (cast_pointer v k)
