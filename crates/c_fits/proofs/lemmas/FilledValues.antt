-- What an expression stores in the place that it fills is a value for that place.
use Rattle.std.proofs.Common.{◌≡◌, ◌⊎◌, ℕ, ◌+◌, ◌≤◌, Bool, true, false, ◌&&◌, ◌||◌, List, length, refl, sym, ap, subst, ◌∙◌, inl, inr, arith}
use Rattle.std.specs.Prelude.{nat_lt, Option, Some, None, if◌then◌else◌}
use Rattle.std.proofs.lemmas.Bool.Decides.{nat_tests}
use Rattle.c_types.specs.CType.{Char, SignedChar, UnsignedChar, CType, Plain, Array, Simple, Structure, Union, unqualified}
use Rattle.c_types.specs.Layout.{Tag, extent}
use Rattle.c_types.specs.Members.{MemberAt}
use Rattle.c_meaning.specs.declared.core_expr.CoreKind.{CoreKind}
use Rattle.c_meaning.specs.declared.core_expr.CoreKind.TheVariants as kind
use Rattle.c_meaning.specs.CoreTrees.{what_of, type_of}
use Rattle.c_meaning.specs.ExprConstraints.{is_assignable}
use Rattle.c_meaning.specs.Filling.{count_of, filled_by, fills, is_char, is_literal_kind, is_text_over, place_of, sized, stored, stored_text, text_of}
use Rattle.c_meaning.specs.Fits.{is_value, is_whole}
use Rattle.c_meaning.specs.Initialising.{is_longer, suits}
use Rattle.c_meaning.specs.StmtTrees.{FilledOf}
use Rattle.c_meaning.specs.Types.{alike, has_size, is_record, is_scalar}
use Rattle.c_meaning.specs.Units.{place_at}
use Rattle.c_meaning.specs.Values.{CoreTree, passed_to, value, value_by}
use Rattle.c_fits.specs.Laws.{Fit}
use Rattle.c_types.specs.BitFields.{is_field_type}
use Rattle.c_fits.specs.OpenPlaces.{IsOpenFor, IsOpenString}
use Rattle.c_fits.proofs.lemmas.Assigned.{IsAssigned, alike_records, assigned_as, bare_again, record_bare, scalar_bare, scalar_no_record}
use Rattle.c_fits.proofs.lemmas.Booleans.{never, and_beside, and_left, and_right, and_true, or_cases, or_true}
use Rattle.c_fits.proofs.lemmas.Calls.{passed_record, passed_scalar}
use Rattle.c_fits.proofs.lemmas.Entering.{whole_bytes}
use Rattle.c_fits.proofs.lemmas.Values.{IsPart, IsOperand, chosen_by, converted_operand, converted_type, value_operand}
use Rattle.c_fits.proofs.lemmas.Waiting.{Bound, IsWithin, Lies, no_bits}

-- what is stored, within bounds
abbrev pub IsFilledIn : List Tag → Bound → FilledOf CType → Type 0
IsFilledIn tags b p = Fit tags p.value × (IsOpenFor tags p.of p.value × Lies tags b (place_at p))

-- ---- values

pub suits_fills : (of : CType) (c : CoreTree) → suits of c ≡ true → fills of c ≡ true
suits_fills of c h = by (is_scalar of) refl h
  where
    by : (s : Bool) → is_scalar of ≡ s → (if s then is_assignable of (value c) else fills of c) ≡ true → fills of c ≡ true
    by true e k = rw e
    by false e k = k

-- a value for a type
abbrev IsOf : List Tag → CType → CoreTree → Type 0
IsOf tags of v = Fit tags v × ((is_value v ≡ true) × ((is_whole tags of ≡ true) × (unqualified (type_of v) ≡ unqualified of)))

scalar_of : (tags : List Tag) (of : CType) (c : CoreTree) → IsPart tags c → is_scalar of ≡ true → is_assignable of (value c) ≡ true → IsOf tags of (passed_to of (value c))
scalar_of tags of c p s h = by (assigned_as tags of (value c) o.fits h)
  where
    o : IsOperand tags (value c)
    o = value_operand tags c p

    by : IsAssigned of (type_of (value c)) → IsOf tags of (passed_to of (value c))
    by (inl k) =
        let d = converted_operand tags (unqualified of) (value c) o k.1 (scalar_bare of k.0) (bare_again of) in
        subst (IsOf tags of) (sym (passed_scalar of (value c) s))
        (d.fits, (d.value, (or_true (is_scalar of) (is_record of && has_size tags of) (inl s), ap unqualified (converted_type (unqualified of) (value c)) ∙ bare_again of)))
    by (inr k) = never (sym k.0 ∙ scalar_no_record of s)

record_value : (t : CType) (c : CoreTree) → is_record t ≡ true → value_by t c ≡ c
record_value (Plain q (Structure n)) c h = refl
record_value (Plain q (Union n)) c h = refl
record_value (Plain q k) c h = never (sym h)
record_value (Array of n) c h = never (sym h)

record_of : (tags : List Tag) (of : CType) (c : CoreTree) → IsPart tags c → is_record of ≡ true → alike of (type_of c) ≡ true → has_size tags of ≡ true → IsOf tags of (passed_to of (value c))
record_of tags of c p r a s =
    let u = alike_records of (type_of c) r a in
    let e : is_record (type_of c) ≡ true = sym (record_bare (type_of c)) ∙ ap is_record u ∙ record_bare of ∙ r in
    let v = record_value (type_of c) c e in
    let o = value_operand tags c p in
    subst (IsOf tags of) (sym (passed_record of (value c) r))
    (o.fits, (o.value, (or_true (is_scalar of) (is_record of && has_size tags of) (inr (and_true (is_record of) (has_size tags of) r s)), ap (λ (c : CoreTree). unqualified (type_of c)) v ∙ u)))

-- where it isn't a string over an array
value_for : (tags : List Tag) (of : CType) (c : CoreTree) → IsPart tags c → suits of c ≡ true → is_text_over of c ≡ false → (is_record of ≡ true → has_size tags of ≡ true) → IsOf tags of (passed_to of (value c))
value_for tags of c p h t s = by (is_scalar of) refl h
  where
    filled : ((is_record of && alike of (type_of c)) ≡ true) ⊎ (is_text_over of c ≡ true) → IsOf tags of (passed_to of (value c))
    filled (inl k) = let r = and_left (is_record of) (alike of (type_of c)) k in record_of tags of c p r (and_right (is_record of) (alike of (type_of c)) k) (s r)
    filled (inr k) = never (sym k ∙ t)

    by : (x : Bool) → is_scalar of ≡ x → (if x then is_assignable of (value c) else fills of c) ≡ true → IsOf tags of (passed_to of (value c))
    by true e k = scalar_of tags of c p e k
    by false e k = filled (or_cases (is_record of && alike of (type_of c)) (is_text_over of c) (subst (λ x. (x || ((is_record of && alike of (type_of c)) || is_text_over of c)) ≡ true) e k))

-- ---- in a place

no_array : (of : CType) (c : CoreTree) → suits of c ≡ true → is_text_over of c ≡ false → (v : CoreTree) (tags : List Tag) → IsOf tags of v → IsOpenFor tags of v
no_array (Plain q k) c h t v tags i = i.1
no_array (Array of n) c h t v tags i = never (sym i.1.1.0)

record_bits : (t : CType) → is_record t ≡ true → is_field_type t ≡ false
record_bits (Plain q (Structure n)) h = refl
record_bits (Plain q (Union n)) h = refl
record_bits (Plain q k) h = never (sym h)
record_bits (Array of n) h = refl

sized_record : (tags : List Tag) (b : Bound) (at : MemberAt) → Lies tags b at → is_record at.of ≡ true → has_size tags at.of ≡ true
sized_record tags b at l r = rw (whole_bytes tags at l.1.0 (no_bits at l.0 (record_bits at.of r)) l.1.1)

-- a string over an array of known size, which has room for it
text_in : (tags : List Tag) (b : Bound) (of : CType) (count : Option ℕ) (at : MemberAt) (c : CoreTree) (what : CoreKind) → what_of c ≡ what → at.of ≡ Array of count → Lies tags b at → Fit tags c → is_char of ≡ true → is_literal_kind what ≡ true → is_longer (text_of what) count ≡ false
    → IsFilledIn tags b (record { of = sized (Array of count) (length (text_of what) + 1); offset = at.offset; first = 0; width = 0; value = c })
text_in tags b of (Some n) at c (kind.Literal bytes) w e l f k t x = (
  f,
  (
    subst (IsOpenString of (Some n)) (sym w) (k, not_longer n (length bytes) x),
    (
      record { of = λ l. absurd (omega (arith, l)); within = omega arith },
      (l.1.0, subst (λ t. (extent tags t).size ≡ Some l.1.0) e (whole_bytes tags at l.1.0 (no_bits at l.0 (rw e)) l.1.1), l.1.2),
    ),
  ),
)
  where
    not_longer : (n m : ℕ) → nat_lt n m ≡ false → m ≤ n
    not_longer n m h = grind (arith, nat_tests, h)
text_in tags b of None at c (kind.Literal bytes) w e l f k t x =
    let none = subst (λ t. (extent tags t).size ≡ Some l.1.0) e (whole_bytes tags at l.1.0 (no_bits at l.0 (rw e)) l.1.1) in
    absurd (let never : ⊥ = cc in never)
text_in tags b of count at c what w e l f k t x = never (sym t)

text_filled : (tags : List Tag) (b : Bound) (of : CType) (at : MemberAt) (c : CoreTree) → at.of ≡ of → Lies tags b at → Fit tags c → is_text_over of c ≡ true → is_longer (text_of (what_of c)) (count_of of) ≡ false
    → IsFilledIn tags b (record { of = sized of (length (text_of (what_of c)) + 1); offset = at.offset; first = 0; width = 0; value = c })
text_filled tags b (Array of count) at c e l f h x = text_in tags b of count at c (what_of c) refl e l f (and_left (is_char of) (is_literal_kind (what_of c)) h) (and_right (is_char of) (is_literal_kind (what_of c)) h) x
text_filled tags b (Plain q k) at c e l f h x = never (sym h)

-- what an expression stores in a place that lies there
pub value_filled : (tags : List Tag) (b : Bound) (at : MemberAt) (c : CoreTree) → Lies tags b at → IsPart tags c → suits at.of c ≡ true → (is_text_over at.of c && is_longer (text_of (what_of c)) (count_of at.of)) ≡ false → IsFilledIn tags b (filled_by at c)
value_filled tags b at c l p s x =
    chosen_by (IsFilledIn tags b) (is_text_over at.of c) (stored_text at c) (stored at (passed_to at.of (value c)))
    (λ t. text_filled tags b at.of at c refl l p.fits t (and_beside (is_text_over at.of c) (is_longer (text_of (what_of c)) (count_of at.of)) t x))
    (λ t. let v = value_for tags at.of c p s t (sized_record tags b at l) in (v.0, (no_array at.of c s t (passed_to at.of (value c)) tags v, l)))

-- ---- an array of unknown size that a string fills as a whole

char_size : (tags : List Tag) (t : CType) → is_char t ≡ true → (extent tags t).size ≡ Some 1
char_size tags (Plain q (Simple Char)) h = refl
char_size tags (Plain q (Simple SignedChar)) h = refl
char_size tags (Plain q (Simple UnsignedChar)) h = refl
char_size tags (Plain q k) h = never (sym h)
char_size tags (Array of n) h = never (sym h)

-- the array has room for the string and its null
pub open_text : (tags : List Tag) (of : CType) (c : CoreTree) (size : ℕ) (b : Bound) → Fit tags c → is_text_over (Array of None) c ≡ true → (extent tags (Array of (Some (length (text_of (what_of c)) + 1)))).size ≡ Some size → IsWithin b 0 size
    → IsFilledIn tags b (filled_by (place_of (Array of None) 0) c)
open_text tags of c size b f h e w =
    chosen_by (IsFilledIn tags b) (is_text_over (Array of None) c) (stored_text (place_of (Array of None) 0) c) (stored (place_of (Array of None) 0) (passed_to (Array of None) (value c)))
    (λ t. by (what_of c) refl (and_left (is_char of) (is_literal_kind (what_of c)) h) (and_right (is_char of) (is_literal_kind (what_of c)) h) e)
    (λ t. never (sym h ∙ t))
  where
    by : (what : CoreKind) → what_of c ≡ what → is_char of ≡ true → is_literal_kind what ≡ true → (extent tags (Array of (Some (length (text_of what) + 1)))).size ≡ Some size
        → IsFilledIn tags b (record { of = Array of (Some (length (text_of what) + 1)); offset = 0; first = 0; width = 0; value = c })
    by (kind.Literal bytes) g k l e = (
      f,
      (
        subst (IsOpenString of (Some (length bytes + 1))) (sym g) (k, omega arith),
        (record { of = λ l. absurd (omega (arith, l)); within = omega arith }, (size, e, w)),
      ),
    )
    by what g k l e = never (sym l)
