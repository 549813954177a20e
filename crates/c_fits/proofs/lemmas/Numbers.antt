-- The types of numbers: promoted ones, and those at which two of them meet.
use Rattle.std.proofs.Common.{◌≡◌, true, List, refl, sym, ap, subst, ◌∙◌, inl, inr}
use Rattle.c_types.specs.CType.{Basic, Void, Char, SignedChar, UnsignedChar, Short, UnsignedShort, Int, Unsigned, Long, UnsignedLong, CType, Plain, Array, Simple, Enumeration, basic, unqualified}
use Rattle.c_types.specs.Conversions.{is_integer, promoted, common, common_basic}
use Rattle.c_types.specs.Layout.{Tag}
use Rattle.c_meaning.specs.CoreTrees.{type_of}
use Rattle.c_meaning.specs.Types.{is_scalar, is_pointer}
use Rattle.c_meaning.specs.Values.{CoreTree, converted, is_narrow, promoted_type, promoted_value, read_width, usual_type}
use Rattle.c_meaning.specs.Fits.{IsPromoted}
use Rattle.c_fits.proofs.lemmas.Booleans.{never, or_true}
use Rattle.c_fits.proofs.lemmas.Values.{IsOperand, chosen_by, converted_type, converted_operand}

-- the basic types to which the promotions lead
data IsWord : Basic → Type 0 where
  int : IsWord Int
  unsigned : IsWord Unsigned
  long : IsWord Long
  unsigned_long : IsWord UnsignedLong

word_promoted : {b : Basic} → IsWord b → IsPromoted (basic b)
word_promoted int = (refl, refl)
word_promoted unsigned = (refl, refl)
word_promoted long = (refl, refl)
word_promoted unsigned_long = (refl, refl)

abbrev IsWordType : CType → Type 0
IsWordType t = (b : Basic) × IsWord b × (t ≡ basic b)

promoted_word : (t : CType) → is_integer t ≡ true → IsWordType (promoted t)
promoted_word (Plain q (Simple Void)) h = never (sym h)
promoted_word (Plain q (Simple Char)) h = (Int, int, refl)
promoted_word (Plain q (Simple SignedChar)) h = (Int, int, refl)
promoted_word (Plain q (Simple UnsignedChar)) h = (Int, int, refl)
promoted_word (Plain q (Simple Short)) h = (Int, int, refl)
promoted_word (Plain q (Simple UnsignedShort)) h = (Int, int, refl)
promoted_word (Plain q (Simple Int)) h = (Int, int, refl)
promoted_word (Plain q (Simple Unsigned)) h = (Unsigned, unsigned, refl)
promoted_word (Plain q (Simple Long)) h = (Long, long, refl)
promoted_word (Plain q (Simple UnsignedLong)) h = (UnsignedLong, unsigned_long, refl)
promoted_word (Plain q (Enumeration n)) h = (Int, int, refl)
promoted_word (Plain q k) h = never (sym h)
promoted_word (Array of n) h = never (sym h)

word_of : (t : CType) → IsPromoted t → IsWordType t
word_of t h = subst IsWordType h.1 (promoted_word t h.0)

of_word : (t : CType) → IsWordType t → IsPromoted t
of_word t w = subst IsPromoted (sym w.2) (word_promoted w.1)

common_word : {a b : Basic} → IsWord a → IsWord b → IsWord (common_basic a b)
common_word int int = int
common_word int unsigned = unsigned
common_word int long = long
common_word int unsigned_long = unsigned_long
common_word unsigned int = unsigned
common_word unsigned unsigned = unsigned
common_word unsigned long = unsigned_long
common_word unsigned unsigned_long = unsigned_long
common_word long int = long
common_word long unsigned = unsigned_long
common_word long long = long
common_word long unsigned_long = unsigned_long
common_word unsigned_long b = unsigned_long

again_word : {a b : Basic} → IsWord a → IsWord b → common_basic a (common_basic a b) ≡ common_basic a b
again_word int int = refl
again_word int unsigned = refl
again_word int long = refl
again_word int unsigned_long = refl
again_word unsigned int = refl
again_word unsigned unsigned = refl
again_word unsigned long = refl
again_word unsigned unsigned_long = refl
again_word long int = refl
again_word long unsigned = refl
again_word long long = refl
again_word long unsigned_long = refl
again_word unsigned_long b = refl

-- ---- promoted types

pub promoted_is : (t : CType) → is_integer t ≡ true → IsPromoted (promoted t)
promoted_is t h = of_word (promoted t) (promoted_word t h)

pub promoted_bare : (t : CType) → IsPromoted t → unqualified t ≡ t
promoted_bare t h = let w = word_of t h in rw (w.2)

common_basics : (t u : CType) (a b : Basic) → t ≡ basic a → u ≡ basic b → common t u ≡ basic (common_basic a b)
common_basics t u a b h k = rw (h, k)

pub common_is : (t u : CType) → IsPromoted t → IsPromoted u → IsPromoted (common t u)
common_is t u h k =
    let v = word_of t h in
    let w = word_of u k in
    of_word (common t u) (common_basic v.0 w.0, common_word v.1 w.1, common_basics t u v.0 w.0 v.2 w.2)

-- the common type with the common type is the common type
pub common_again : (t u : CType) → IsPromoted t → IsPromoted u → common t (common t u) ≡ common t u
common_again t u h k =
    let v = word_of t h in
    let w = word_of u k in
    let e = common_basics t u v.0 w.0 v.2 w.2 in
    common_basics t (common t u) v.0 (common_basic v.0 w.0) v.2 e ∙ ap basic (again_word v.1 w.1) ∙ sym e

pub int_promoted : IsPromoted (basic Int)
int_promoted = (refl, refl)

pub integer_scalar : (t : CType) → is_integer t ≡ true → is_scalar t ≡ true
integer_scalar t h = or_true (is_integer t) (is_pointer t) (inl h)

pub pointer_scalar : (t : CType) → is_pointer t ≡ true → is_scalar t ≡ true
pointer_scalar t h = or_true (is_integer t) (is_pointer t) (inr h)

-- ---- promoted values

pub promoted_type_is : (v : CoreTree) → is_integer (type_of v) ≡ true → IsPromoted (promoted_type v)
promoted_type_is v h = chosen_by IsPromoted (is_narrow (read_width v)) (basic Int) (promoted (type_of v)) (λ e. int_promoted) (λ e. promoted_is (type_of v) h)

pub usual_type_is : (v w : CoreTree) → is_integer (type_of v) ≡ true → is_integer (type_of w) ≡ true → IsPromoted (usual_type v w)
usual_type_is v w h k = common_is (promoted_type v) (promoted_type w) (promoted_type_is v h) (promoted_type_is w k)

-- a number converted to a promoted type
pub number_operand : (tags : List Tag) (to : CType) (v : CoreTree) → IsOperand tags v → is_integer (type_of v) ≡ true → IsPromoted to → IsOperand tags (converted to v)
number_operand tags to v o h p = converted_operand tags to v o (integer_scalar (type_of v) h) (integer_scalar to p.0) (promoted_bare to p)

pub promoted_operand : (tags : List Tag) (v : CoreTree) → IsOperand tags v → is_integer (type_of v) ≡ true → IsOperand tags (promoted_value v)
promoted_operand tags v o h = number_operand tags (promoted_type v) v o h (promoted_type_is v h)

pub promoted_value_type : (v : CoreTree) → type_of (promoted_value v) ≡ promoted_type v
promoted_value_type v = converted_type (promoted_type v) v
