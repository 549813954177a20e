-- Integer types have places that tell their signs, and constants have integer types.
use Rattle.std.proofs.Common.{◌≡◌, ℕ, zero, suc, ◌<◌, ◌≤◌, ◌+◌, List, [], ◌∷◌, ◌++◌, length, refl, sym, ap, ◌∙◌, subst, arith, inl, inr}
use Rattle.std.specs.Prelude.{true, false, ◌==◌, Option, Some, None, slice_get, ◌≢◌}
use Rattle.std.proofs.lemmas.List.{get_or_append_left, get_or_past, length-append}
use Rattle.std.proofs.lemmas.Option.{get_or_from_slice_get}
use Rattle.std.proofs.lemmas.Nat.{le_or_r}
use Rattle.std.proofs.lemmas.Bool.{cases_lt}
use Rattle.std.proofs.lemmas.Bool.Decides.{nat_tests}
use Rattle.std.proofs.Math.Seq.{get_or-append_seam}
use Rattle.c_types.specs.declared.type_form.TypeForm.{TypeForm}
use Rattle.c_types.specs.declared.type_form.TypeForm.TheVariants as form
use Rattle.c_types.specs.CType.{CType, Plain, Array, Void, basic, qualify}
use Rattle.c_types.specs.Conversions.{is_integer}
use Rattle.c_types.specs.Table.{Table, basic_forms, type_at, type_in, types_after, formed, counted, form_at, is_qualified}
use Rattle.c_meaning.specs.Scalars.{is_signed}
use Rattle.c_meaning.specs.Types.{qualifiers_of}
use Rattle.c_values.specs.Folding.{has_sign}
use Rattle.c_values.specs.Signs.{is_basic, is_bare, HasBasicForms}

-- ---- the type at a place is formed from the types before it

-- what stands there already stays
front_stays : (known : List CType) (n : ℕ) (fs : List TypeForm) (i : ℕ) → i < length known → type_in (types_after known n fs) i ≡ type_in known i
front_stays known n [] i h = refl
front_stays known n (f ∷ fs) i h =
    let x = formed known n f in
    front_stays (known ++ x ∷ []) (n + counted f) fs i (omega (arith, length-append known (x ∷ []))) ∙ get_or_append_left known (x ∷ []) (basic Void) i h

-- the types and the number that a form is formed with
formed_at : (known : List CType) (n : ℕ) (fs : List TypeForm) (i : ℕ) (f : TypeForm) → slice_get fs i ≡ Some f →
    (ts : List CType) × (k : ℕ) × (type_in (types_after known n fs) (length known + i) ≡ formed ts k f)
formed_at known n [] i f e = absurd (cc)
formed_at known n (g ∷ fs) zero f e =
    let h : g ≡ f = cc in
    let x = formed known n g in
    let z : length known + 0 ≡ length known = omega arith in
    let a = front_stays (known ++ x ∷ []) (n + counted g) fs (length known) (omega (arith, length-append known (x ∷ []))) in
    (known, n, rw z (a ∙ get_or-append_seam known x [] (basic Void) ∙ ap (formed known n) h))
formed_at known n (g ∷ fs) (suc i) f e =
    let x = formed known n g in
    let k : length (known ++ x ∷ []) + i ≡ length known + suc i = omega (arith, length-append known (x ∷ [])) in
    let r = formed_at (known ++ x ∷ []) (n + counted g) fs i f e in
    (r.0, r.1, subst (λ j. type_in (types_after (known ++ x ∷ []) (n + counted g) fs) j ≡ formed r.0 r.1 f) k r.2)

-- there is none behind them
none_past : (known : List CType) (n : ℕ) (fs : List TypeForm) (i : ℕ) → slice_get fs i ≡ None → type_in (types_after known n fs) (length known + i) ≡ basic Void
none_past known n [] i e = get_or_past known (length known + i) (basic Void) (omega arith)
none_past known n (g ∷ fs) zero e = absurd (cc)
none_past known n (g ∷ fs) (suc i) e =
    let x = formed known n g in
    let k : length (known ++ x ∷ []) + i ≡ length known + suc i = omega (arith, length-append known (x ∷ [])) in
    subst (λ j. type_in (types_after (known ++ x ∷ []) (n + counted g) fs) j ≡ basic Void) k (none_past (known ++ x ∷ []) (n + counted g) fs i e)

-- ---- signs by forms

-- qualifiers that are added stay
stays_qualified : (s : CType) (q : ℕ) → (q == 0) ≡ false → is_integer (qualify q s) ≡ true → qualifiers_of (qualify q s) ≡ 0 → ⊥
stays_qualified (Plain p k) q e h z = (let some : q ≢ 0 = grind (arith, nat_tests) in some (omega (arith, le_or_r p q)))
stays_qualified (Array of n) q e h z = cc

-- of a type behind the basic ones
later_sign : (ts : List CType) (k : ℕ) (f : TypeForm) → is_basic f ≡ false → is_bare f ≡ false → is_integer (formed ts k f) ≡ true → qualifiers_of (formed ts k f) ≡ 0 → is_signed (formed ts k f) ≡ true
later_sign ts k (form.Enumeration ms) b e h z = refl
later_sign ts k (form.Qualified of q) b e h z = absurd (stays_qualified (type_in ts of) q.0 e h z)
later_sign ts k f b e h z = absurd (cc)

-- of the basic ones, by their order
abbrev IsTold : ℕ → TypeForm → Type 0
IsTold id f = (ts : List CType) → (k : ℕ) → is_integer (formed ts k f) ≡ true → is_signed (formed ts k f) ≡ has_sign id

abbrev AreTold : ℕ → List TypeForm → Type 0
AreTold n [] = Unit {0}
AreTold n (f ∷ fs) = IsTold n f × AreTold (suc n) fs

basics_told : AreTold 0 basic_forms
basics_told = (λ ts k h. absurd (cc), (λ ts k h. refl, (λ ts k h. refl, (λ ts k h. refl, (λ ts k h. refl, (λ ts k h. refl, (λ ts k h. refl, (λ ts k h. refl, (λ ts k h. refl, (λ ts k h. refl, tt))))))))))

told_at : (n : ℕ) (fs : List TypeForm) (i : ℕ) (f : TypeForm) → AreTold n fs → slice_get fs i ≡ Some f → IsTold (n + i) f
told_at n [] i f h e = absurd (cc)
told_at n (g ∷ fs) zero f h e = (let z : n + 0 ≡ n = omega arith in let s : g ≡ f = cc in rw z (subst (IsTold n) s h.0))
told_at n (g ∷ fs) (suc i) f h e = (let z : suc n + i ≡ n + suc i = omega arith in subst (λ j. IsTold j f) z (told_at (suc n) fs i f h.1 e))

basic_sign : (id : ℕ) (f : TypeForm) → slice_get basic_forms id ≡ Some f → IsTold id f
basic_sign id f e = (let z : 0 + id ≡ id = omega arith in subst (λ j. IsTold j f) z (told_at 0 basic_forms id f basics_told e))

-- ---- signs by places

has_later_sign : (id : ℕ) → 10 ≤ id → has_sign id ≡ true
has_later_sign id h = grind (arith, nat_tests)

-- an integer type has a form
record IsFormed (t : Table) (id : ℕ) : Type 0 where
  before : List CType
  number : ℕ
  form : slice_get t.forms id ≡ Some (form_at t id)
  means : type_at t id ≡ formed before number (form_at t id)

is_formed : (t : Table) (id : ℕ) (o : Option TypeForm) → slice_get t.forms id ≡ o → is_integer (type_at t id) ≡ true → IsFormed t id
is_formed t id None e h =
    let k : 0 + id ≡ id = omega arith in
    let v : type_at t id ≡ basic Void = rw k at (none_past [] 0 t.forms id e) in
    let no : is_integer (basic Void) ≡ true = rw v at h in
    absurd (cc)
is_formed t id (Some f) e h =
    let k : 0 + id ≡ id = omega arith in
    let r = formed_at [] 0 t.forms id f e in
    let g : form_at t id ≡ f = get_or_from_slice_get t.forms id f form.Void e in
    let v : type_at t id ≡ formed r.0 r.1 f = rw k at r.2 in
    record { before = r.0; number = r.1; form = rw g e; means = v ∙ ap (formed r.0 r.1) (sym g) }

pub place_sign : (t : Table) (id : ℕ) → HasBasicForms t → is_bare (form_at t id) ≡ false →
    is_integer (type_at t id) ≡ true → qualifiers_of (type_at t id) ≡ 0 → is_signed (type_at t id) ≡ has_sign id
place_sign t id b bare h z =
    let r = is_formed t id (slice_get t.forms id) refl h in
    let f = form_at t id in
    rw r.means (elim (cases_lt id 10) [
      | inl l ↦ basic_sign id f (sym (b.first id l) ∙ r.form) r.before r.number (rw r.means at h)
      | inr l ↦ later_sign r.before r.number f (b.others id f l r.form) bare (rw r.means at h) (rw r.means at z) ∙ sym (has_later_sign id l)
    ])

is_own : (f : TypeForm) → is_qualified f ≡ false → is_bare f ≡ false
is_own (form.Qualified of q) h = absurd (cc)
is_own f h = refl

own_qualifiers : (ts : List CType) (k : ℕ) (f : TypeForm) → is_qualified f ≡ false → qualifiers_of (formed ts k f) ≡ 0
own_qualifiers ts k (form.Qualified of q) h = absurd (cc)
own_qualifiers ts k f h = refl

pub own_sign : (t : Table) (id : ℕ) → HasBasicForms t → is_qualified (form_at t id) ≡ false →
    is_integer (type_at t id) ≡ true → is_signed (type_at t id) ≡ has_sign id
own_sign t id b own h =
    let r = is_formed t id (slice_get t.forms id) refl h in
    place_sign t id b (is_own (form_at t id) own) h (rw r.means (own_qualifiers r.before r.number (form_at t id) own))
