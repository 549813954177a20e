-- What the tests of types and values give, for the answers of the functions that make them.
use Rattle.std.proofs.Common.{◌≡◌, ℕ, zero, suc, ◌<◌, Bool, true, false, [], ◌∷◌, length, refl, sym, ap, ◌∙◌, subst, true≢false, arith}
use Rattle.std.specs.Prelude.{◌≢◌, ℤ, pos, negsuc, ◌+◌, Option, Some, None, bit_or, unwrap_or, nat_lt, ◌==◌, ◌||◌, ◌&&◌, if◌then◌else◌}
use Rattle.std.proofs.lemmas.Bool.Decides.{nat_tests}
use Rattle.std.proofs.lemmas.Nat.{le_or_r}
use Rattle.objects.specs.Arithmetic.{signed_of}
use Rattle.lcc_base.specs.declared.which.Which.TheVariants as which
use Rattle.c_types.specs.declared.type_fault.TypeFault.{TypeFault}
use Rattle.c_types.specs.declared.type_fault.TypeFault.TheVariants as fault
use Rattle.c_types.specs.declared.type_form.TypeForm.TheVariants as form
use Rattle.c_types.specs.CType.{Basic, Void, Char, SignedChar, UnsignedChar, Short, UnsignedShort, Int, Unsigned, Long, UnsignedLong, CType, Plain, Array, Kind, Simple, Pointer, Function, Structure, Union, basic, depth, qualify}
use Rattle.c_types.specs.Compatible.{basic_place}
use Rattle.c_types.specs.Readings.{is_pointer}
use Rattle.c_types.specs.Conversions.{common, promoted, usual}
use Rattle.c_types.specs.Layout.{size_or_zero}
use Rattle.c_types.specs.Table.{Table, Extends, form_refusal, type_at}
use Rattle.c_meaning.specs.declared.core_expr.CoreKind.{CoreKind}
use Rattle.c_meaning.specs.declared.core_expr.CoreKind.TheVariants as kind
use Rattle.c_meaning.specs.Constants.{fold, is_cast_zero, is_constant, is_null, is_plain_void_pointer, is_zero, is_zero_number, word}
use Rattle.c_meaning.specs.CoreTrees.{CoreOf, Core, CoresOf, IsIn, cores_of, line_of, one, seen, type_of}
use Rattle.c_meaning.specs.Scalars.{is_signed}
use Rattle.c_meaning.specs.Types.{is_function, pointer_to}
use Rattle.c_meaning.specs.Values.{CoreTree, is_lvalue, is_narrow, is_place, promoted_type, read_width, same_simple, usual_type, value, value_by}
use Rattle.c_values.specs.declared.check_fault.CheckFault.{CheckFault}
use Rattle.c_values.specs.declared.check_fault.CheckFault.TheVariants as told
use Rattle.c_values.specs.TooDeep.{IsTooDeep}
use Rattle.c_values.specs.Valued.{plain_place}
use Rattle.c_values.proofs.Folding.{constant_seen, word_seen}
use Rattle.c_values.specs.Stays.{in_later, seen_stays, type_seen}
use Rattle.c_values.proofs.Valuing.{value_of_function}

-- ---- types under qualifiers

some_or : (a b : ℕ) → (b ≡ 0 → ⊥) → (bit_or a b == 0) ≡ false
some_or a b h = let l = le_or_r a b in grind (arith, nat_tests)

-- with qualifiers it is no plain basic type
pub plain_under : (q : ℕ) (t : CType) → (q ≡ 0 → ⊥) → None ≡ plain_place (qualify q t)
plain_under q (Plain p k) h = rw (some_or p q h) refl
plain_under q (Array of n) h = refl

-- with qualifiers it is no `void *` without any
pub void_pointer_under : (q : ℕ) (t : CType) → (q ≡ 0 → ⊥) → false ≡ is_plain_void_pointer (qualify q t)
void_pointer_under q (Plain p k) h = by (bit_or p q) k (some_or p q h)
  where
    by : (n : ℕ) (k : Kind) → (n == 0) ≡ false → false ≡ is_plain_void_pointer (Plain n k)
    by zero k e = absurd (true≢false e)
    by (suc n) k e = refl
void_pointer_under q (Array of n) h = refl

-- a pointer without qualifiers is `void *` where it points to plain void
pub void_pointer : (to : CType) → same_simple to (basic Void) ≡ is_plain_void_pointer (Plain 0 (Pointer to))
void_pointer (Plain zero (Simple Void)) = refl
void_pointer (Plain zero (Simple Char)) = refl
void_pointer (Plain zero (Simple SignedChar)) = refl
void_pointer (Plain zero (Simple UnsignedChar)) = refl
void_pointer (Plain zero (Simple Short)) = refl
void_pointer (Plain zero (Simple UnsignedShort)) = refl
void_pointer (Plain zero (Simple Int)) = refl
void_pointer (Plain zero (Simple Unsigned)) = refl
void_pointer (Plain zero (Simple Long)) = refl
void_pointer (Plain zero (Simple UnsignedLong)) = refl
void_pointer (Plain zero k) = refl
void_pointer (Plain (suc q) (Simple b)) = some_qualifiers (suc q) b (λ e. omega (arith, e))
  where
    some_qualifiers : (q : ℕ) (b : Basic) → (q ≡ 0 → ⊥) → same_simple (Plain q (Simple b)) (basic Void) ≡ false
    some_qualifiers q b h = (let e : (q == 0) ≡ false = grind (arith, nat_tests) in rw e (none (basic_place b == 0)))
      where
        none : (x : Bool) → (x && (false && true)) ≡ false
        none true = refl
        none false = refl
void_pointer (Plain (suc q) k) = refl
void_pointer (Array of n) = refl

pub no_void_pointer : (t : CType) → is_pointer t ≡ false → false ≡ is_plain_void_pointer t
no_void_pointer (Plain q (Pointer to)) h = absurd (true≢false h)
no_void_pointer (Plain zero k) h = refl
no_void_pointer (Plain (suc q) k) h = refl
no_void_pointer (Array of n) h = refl

pub size_or : (o : Option ℕ) → unwrap_or o 0 ≡ size_or_zero o
size_or None = refl
size_or (Some n) = refl

-- ---- promotions

pub promoted_twice : (t : CType) → promoted (promoted t) ≡ promoted t
promoted_twice (Plain q (Simple Void)) = refl
promoted_twice (Plain q (Simple Char)) = refl
promoted_twice (Plain q (Simple SignedChar)) = refl
promoted_twice (Plain q (Simple UnsignedChar)) = refl
promoted_twice (Plain q (Simple Short)) = refl
promoted_twice (Plain q (Simple UnsignedShort)) = refl
promoted_twice (Plain q (Simple Int)) = refl
promoted_twice (Plain q (Simple Unsigned)) = refl
promoted_twice (Plain q (Simple Long)) = refl
promoted_twice (Plain q (Simple UnsignedLong)) = refl
promoted_twice (Plain q k) = refl
promoted_twice (Array of n) = refl

pub promotion_twice : (v : CoreTree) → promoted (promoted_type v) ≡ promoted_type v
promotion_twice v = by (is_narrow (read_width v))
  where
    by : (b : Bool) → promoted (if b then basic Int else promoted (type_of v)) ≡ (if b then basic Int else promoted (type_of v))
    by true = refl
    by false = promoted_twice (type_of v)

pub usual_of : (v w : CoreTree) (a b c : CType) → a ≡ promoted_type v → b ≡ promoted_type w → c ≡ usual a b → c ≡ usual_type v w
usual_of v w a b c e f g = g ∙ ap (λ x. common (promoted x) (promoted b)) e ∙ ap (λ x. common (promoted (promoted_type v)) (promoted x)) f ∙ ap (λ x. common x (promoted (promoted_type w))) (promotion_twice v) ∙ ap (common (promoted_type v)) (promotion_twice w)

-- ---- constants

pub fold_none : (t : Table) (e : CoreOf ℕ) → is_constant e ≡ false → None ≡ fold (seen (type_at t) e)
unfolding fold
fold_none t e h = rw (constant_seen (type_at t) e, h) refl

pub fold_no_word : (t : Table) (e : CoreOf ℕ) → is_constant e ≡ true → word e ≡ None → None ≡ fold (seen (type_at t) e)
unfolding fold
fold_no_word t e h n = rw (constant_seen (type_at t) e, h, word_seen (type_at t) e, n) refl

pub fold_some : (t : Table) (e : CoreOf ℕ) (n : ℕ) (s : Bool) (z : ℤ) → is_constant e ≡ true → word e ≡ Some n → s ≡ is_signed (type_at t (type_of e)) → z ≡ (if s then signed_of n else pos n) → Some z ≡ fold (seen (type_at t) e)
unfolding fold
fold_some t e n s z h w g i = rw (constant_seen (type_at t) e, h, word_seen (type_at t) e, w, type_seen (type_at t) e, i, g) refl

pub zero_or_not : (z : ℤ) → (z ≡ pos 0 → ⊥) → false ≡ is_zero_number (Some z)
zero_or_not (pos zero) h = absurd (h refl)
zero_or_not (pos (suc n)) h = refl
zero_or_not (negsuc n) h = refl

-- ---- null pointer constants

lvalue_place : (c : CoreTree) → is_lvalue c ≡ true → is_place c ≡ true
lvalue_place (Core (kind.Member offset first width) of line kids) h = refl
lvalue_place (Core what of line kids) h = h

by_value : (t : CType) (c : CoreTree) → is_place c ≡ false → is_function t ≡ false → value_by t c ≡ c
by_value (Array of n) c p f = no_lvalue (is_lvalue c) refl
  where
    no_lvalue : (b : Bool) → is_lvalue c ≡ b → (if b then Core kind.First (pointer_to of) (line_of c) (one c) else c) ≡ c
    no_lvalue true e = absurd (true≢false (sym (lvalue_place c e) ∙ p))
    no_lvalue false e = refl
by_value (Plain q (Function r ps)) c p f = absurd (true≢false f)
by_value (Plain q (Structure n)) c p f = refl
by_value (Plain q (Union n)) c p f = refl
by_value (Plain q (Simple Void)) c p f = refl
by_value (Plain q k) c p f = rw p refl

pub null_itself : (c : CoreTree) → is_place c ≡ false → is_function (type_of c) ≡ false → is_null c ≡ is_null (value c)
null_itself c p f = ap is_null (sym (by_value (type_of c) c p f))

place_constant : (c : CoreTree) → is_place c ≡ true → is_constant c ≡ false
place_constant (Core (kind.Local place register) of line kids) h = refl
place_constant (Core (kind.Object n) of line kids) h = refl
place_constant (Core (kind.Text n) of line kids) h = refl
place_constant (Core (kind.Literal bytes) of line kids) h = refl
place_constant (Core (kind.Symbol id) of line kids) h = refl
place_constant (Core kind.Pointed of line kids) h = refl
place_constant (Core (kind.Member offset first width) of line kids) h = refl
place_constant (Core what of line kids) h = absurd (true≢false (sym h))

no_zero : (c : CoreTree) → is_constant c ≡ false → is_zero c ≡ false
unfolding fold
no_zero c h = rw h refl

place_cast : (c : CoreTree) → is_place c ≡ true → is_cast_zero c ≡ false
place_cast (Core (kind.Convert conversion) of line kids) h = absurd (true≢false (sym h))
place_cast (Core what of line kids) h = refl

place_null : (c : CoreTree) → is_place c ≡ true → is_null c ≡ false
place_null c h = rw (no_zero c (place_constant c h), place_cast c h) refl

read_null : (k : CoreKind) (of : CType) (c : CoreTree) (b : Bool) → is_place c ≡ true → is_null (Core k of (line_of c) (one c)) ≡ false → is_null (if b then Core k of (line_of c) (one c) else c) ≡ false
read_null k of c true h n = n
read_null k of c false h n = place_null c h

address_null : (of : CType) (line : ℕ) (kids : CoresOf CType) → is_null (Core kind.Address of line kids) ≡ false
address_null of line kids = rw (no_zero (Core kind.Address of line kids) refl) refl

first_null : (of : CType) (line : ℕ) (kids : CoresOf CType) → is_null (Core kind.First of line kids) ≡ false
first_null of line kids = rw (no_zero (Core kind.First of line kids) refl) refl

reading_null : (of : CType) (line : ℕ) (kids : CoresOf CType) → is_null (Core kind.Read of line kids) ≡ false
reading_null of line kids = rw (no_zero (Core kind.Read of line kids) refl) refl

by_place : (t : CType) (c : CoreTree) → is_place c ≡ true → is_null (value_by t c) ≡ false
by_place (Array of n) c h = read_null kind.First (pointer_to of) c (is_lvalue c) h (first_null (pointer_to of) (line_of c) (one c))
by_place (Plain q (Function r ps)) c h = address_null (pointer_to (type_of c)) (line_of c) (one c)
by_place (Plain q (Structure n)) c h = place_null c h
by_place (Plain q (Union n)) c h = place_null c h
by_place (Plain q (Simple Void)) c h = place_null c h
by_place (Plain q k) c h = read_null kind.Read (Plain 0 k) c (is_place c) h (reading_null (Plain 0 k) (line_of c) (one c))

-- the value of a place is none
pub null_of_place : (c : CoreTree) → is_place c ≡ true → false ≡ is_null (value c)
null_of_place c h = sym (by_place (type_of c) c h)

-- nor is that of a function
pub null_of_function : (c : CoreTree) → is_function (type_of c) ≡ true → false ≡ is_null (value c)
null_of_function c h = sym (ap is_null (value_of_function c h) ∙ address_null (pointer_to (type_of c)) (line_of c) (one c))

-- ---- pointers that are formed

line_seen : {T U : Type 0} (known : T → U) (c : CoreOf T) → line_of (seen known c) ≡ line_of c
line_seen known (Core what of line kids) = refl

pub decayed_seen : (old new : Table) (k : CoreKind) (id : ℕ) (c v : CoreOf ℕ) (T : CType) → Extends old new → IsIn (length old.forms) c → type_at new id ≡ T → v ≡ Core k id (line_of c) (cores_of (c ∷ [])) → seen (type_at new) v ≡ Core k T (line_of (seen (type_at old) c)) (one (seen (type_at old) c))
decayed_seen old new k id c v T h i e f = ap (seen (type_at new)) f ∙ rw (e, seen_stays old new h c i, line_seen (type_at old) c) refl

pub decayed_in : (old new : Table) (k : CoreKind) (id : ℕ) (c v : CoreOf ℕ) → Extends old new → IsIn (length old.forms) c → id < length new.forms → v ≡ Core k id (line_of c) (cores_of (c ∷ [])) → IsIn (length new.forms) v
decayed_in old new k id c v h i l f = subst (IsIn (length new.forms)) (sym f) (l, (in_later old new h c i, tt))

-- a pointer that is refused is too deep
pub deep_pointer : (t : Table) (of : ℕ) (T : CType) (line : ℕ) (e : TypeFault) (r : CheckFault) → type_at t of ≡ T → (e ≢ fault.Memory → form_refusal t (form.Pointer of) ≡ Some e) → (e ≡ fault.TooLarge → r ≡ told.Limit which.Object line) → (e ≡ fault.TooDeep → r ≡ told.Limit which.Depth line) → (e ≢ fault.TooLarge → e ≢ fault.TooDeep → r ≡ told.Memory) → IsTooDeep r line (pointer_to T)
deep_pointer t of T line fault.Memory r m f large deep other = subst (λ x. IsTooDeep x line (pointer_to T)) (sym (other (λ e. cc) (λ e. cc))) tt
deep_pointer t of T line fault.Incomplete r m f large deep other = subst (λ x. IsTooDeep x line (pointer_to T)) (sym (other (λ e. cc) (λ e. cc))) tt
deep_pointer t of T line fault.TooLarge r m f large deep other = absurd (never (nat_lt 500 (1 + depth (type_at t of))) (f (λ e. cc)))
  where
    never : (b : Bool) → (if b || false then Some fault.TooDeep else None) ≡ Some fault.TooLarge → ⊥
    never true e = cc
    never false e = cc
deep_pointer t of T line fault.TooDeep r m f large deep other =
    subst (λ x. IsTooDeep x line (pointer_to T)) (sym (deep refl)) (refl, (refl, ap (λ (s : CType). nat_lt 500 (1 + depth s)) (sym m) ∙ so (nat_lt 500 (1 + depth (type_at t of))) (f (λ e. cc))))
  where
    so : (b : Bool) → (if b || false then Some fault.TooDeep else None) ≡ Some fault.TooDeep → b ≡ true
    so true e = refl
    so false e = cc
