-- A form that gets a place: what its table keeps then.
use Rattle.std.proofs.Common.{◌≡◌, ◌⊎◌, inl, inr, ℕ, zero, suc, ◌+◌, ◌-◌, ◌<◌, ◌≤◌, Bool, true, false, List, [], ◌∷◌, ◌++◌, length, get_or, refl, sym, ap, ◌∙◌, subst, true≢false, append_assoc, arith}
use Rattle.std.specs.Prelude.{slice_get, Some, None, nat_lt}
use Rattle.std.specs.Map.{lookup, keys_of}
use Rattle.std.specs.Prelude.{position}
use Rattle.std.proofs.lemmas.List.Quantifiers.{position-Some}
use Rattle.c_types.specs.declared.form_key.FormKey.TheVariants as key
use Rattle.std.proofs.lemmas.Bool.Decides.{nat_tests}
use Rattle.std.proofs.lemmas.Option.{slice_get_within}
use Rattle.std.proofs.lemmas.List.{append-nil}
use Rattle.std.proofs.Math.Seq.{get_or-append_seam}
use Rattle.c_types.specs.declared.type_form.TypeForm.{TypeForm}
use Rattle.c_types.specs.declared.type_form.TypeForm.TheVariants as form
use Rattle.c_types.specs.declared.form_key.FormKey.{FormKey}
use Rattle.c_types.specs.declared.type_table.Formed.{Formed}
use Rattle.c_types.specs.declared.type_table.Facts.{Facts}
use Rattle.c_types.specs.declared.definition.Definition.{Definition}
use Rattle.c_types.specs.CType.{CType, Void, basic, qualify, depth}
use Rattle.c_types.specs.Layout.{known, extent_by}
use Rattle.c_types.specs.Table.{Table, Extends, basic_forms, form_at, type_at, type_in, types, types_of, formed, tagged, tags, is_qualified, is_open_form, is_tagged, number_at, IsNew, IsOver}
use Rattle.c_types.specs.Definitions.{AreComplete}
use Rattle.c_types.specs.BitFields.{have_fields}
use Rattle.c_types.specs.Keeps.{Keeps, IsFact, IsKeyOf, IsSettled, forms_in, completed_in, is_formed}
use Rattle.c_types.specs.Facts.{IsFactOf, type_of}
use Rattle.c_types.proofs.lemmas.Qualifying.{qualify_none}
use Rattle.c_types.proofs.Growing.{types_push, length-types}
use Rattle.c_types.proofs.Insides.{before, behind, form_of_entry, table_of, type_by_form, length-forms}
use Rattle.c_types.proofs.Known.{settled_extent, settled_stays}
use Rattle.c_types.proofs.Stays.{Stays, fact_stays, definition_stays, more, stays_more, tags_kept}
use Rattle.c_types.proofs.Keys.{eq, key_at, same_forms, same_keys, lookup_none}

pub push_cases : {A : Type 0} (xs : List A) (x : A) (i : ℕ) (e : A) → slice_get (xs ++ x ∷ []) i ≡ Some e → (slice_get xs i ≡ Some e) ⊎ ((i ≡ length xs) × (e ≡ x))
push_cases [] x zero e h = inr (refl, cc)
push_cases [] x (suc i) e h = absurd (cc)
push_cases (y ∷ xs) x zero e h = inl h
push_cases (y ∷ xs) x (suc i) e h =
    elim (push_cases xs x i e h) [ inl g ↦ inl g | inr g ↦ inr (ap suc g.0, g.1) ]

pub forms_push : (es : List (FormKey × Formed)) (x : FormKey × Formed) → forms_in (es ++ x ∷ []) ≡ forms_in es ++ x.1.form ∷ []
forms_push [] x = refl
forms_push (e ∷ es) x = ap (λ fs. e.1.form ∷ fs) (forms_push es x)

-- the place behind all has the type of the form
pub type_at_end : (fs : List TypeForm) (f : TypeForm) → type_in (types_of (fs ++ f ∷ [])) (length fs) ≡ formed (types_of fs) (tagged fs) f
type_at_end fs f =
    let l : length fs ≡ length (types_of fs) = omega (arith, length-types [] 0 fs) in
    let z : 0 + tagged fs ≡ tagged fs = omega arith in
    ap (λ ts. type_in ts (length fs)) (types_push [] 0 fs f)
    ∙ ap (λ n. type_in (types_of fs ++ formed (types_of fs) (0 + tagged fs) f ∷ []) n) l
    ∙ get_or-append_seam (types_of fs) (formed (types_of fs) (0 + tagged fs) f) [] (basic Void)
    ∙ ap (λ n. formed (types_of fs) n f) z

form_at_end : (fs : List TypeForm) (f : TypeForm) → get_or (fs ++ f ∷ []) (length fs) form.Void ≡ f
form_at_end fs f = get_or-append_seam fs f [] form.Void

-- what is known of the form holds at its place
new_fact : (o : Table) (f : TypeForm) (x : Facts) → Stays o (more o f) → is_formed f ≡ true → IsFactOf o f x → IsFact (more o f) (length o.forms) x
new_fact o f x s u h = by (is_qualified f) refl
  where
    by : (b : Bool) → is_qualified f ≡ b → IsFact (more o f) (length o.forms) x
    by true q =
        let n = more o f in
        let w = h.other q in
        let e : form_at n (length o.forms) ≡ f = form_at_end o.forms f in
        let no : is_qualified (form_at n (length o.forms)) ≡ false → ⊥ = λ z. true≢false (sym q ∙ ap is_qualified (sym e) ∙ z) in
        record {
          base = (let l = w.0 in omega arith);
          plain = ap is_qualified (s.forms x.base w.0) ∙ w.1;
          means = type_at_end o.forms f ∙ w.2 ∙ ap (qualify x.qualifiers.0) (sym (s.means x.base w.0));
          depth = h.depth ∙ ap depth (sym (type_at_end o.forms f));
          deep = h.deep;
          bounded = h.bounded;
          own = λ z. absurd (no z);
          extent = λ z y. absurd (no z);
          settled = λ z y. absurd (no z);
          open_form = λ z. h.open_form (ap is_open_form (sym e) ∙ z);
        }
    by false q =
        let n = more o f in
        let w = h.own q in
        let e : form_at n (length o.forms) ≡ f = form_at_end o.forms f in
        let t : type_at n (length o.forms) ≡ type_of o f = type_at_end o.forms f in
        let p : is_open_form (form_at n (length o.forms)) ≡ false → is_open_form f ≡ false = λ z. ap is_open_form (sym e) ∙ z in
        let k = known (tags o) in
        let m = known (tags n) in
        record {
          base = (let l = w.0 in omega arith);
          plain = ap (λ j. is_qualified (form_at n j)) w.0 ∙ ap is_qualified e ∙ q;
          means = sym (ap (λ j. qualify x.qualifiers.0 (type_at n j)) w.0 ∙ ap (λ j. qualify j (type_at n (length o.forms))) w.1 ∙ qualify_none (type_at n (length o.forms)));
          depth = h.depth ∙ ap depth (sym t);
          deep = h.deep;
          bounded = h.bounded;
          own = λ z. w.0;
          extent = λ z y. ap (extent_by m) t ∙ settled_extent k m s.known (type_of o f) (h.settled u q (p y)) ∙ h.extent u q (p y);
          settled = λ z y. subst (IsSettled m) (sym t) (settled_stays k m s.known (type_of o f) (h.settled u q (p y)));
          open_form = λ z. h.open_form (ap is_open_form (sym e) ∙ z);
        }

module _ (basics : List TypeForm) (es : List (FormKey × Formed)) (ds : List (ℕ × Definition)) (x : FormKey × Formed) where
  abbrev before_it : Table
  before_it = table_of basics es ds

  abbrev after_it : Table
  after_it = table_of basics (es ++ x ∷ []) ds

  pub table_push : after_it ≡ more before_it x.1.form
  table_push =
      let e : basics ++ forms_in (es ++ x ∷ []) ≡ (basics ++ forms_in es) ++ x.1.form ∷ [] = ap (λ fs. basics ++ fs) (forms_push es x) ∙ sym (append_assoc basics (forms_in es) (x.1.form ∷ [])) in
      ap (λ (fs : List TypeForm). record { forms = fs; completed = completed_in ds }) e

  pub stays_push : Keeps basics es ds before_it → Stays before_it (more before_it x.1.form)
  stays_push k = stays_more before_it x.1.form ds refl k.defined

  pub keeps_push : Keeps basics es ds before_it → IsKeyOf (10 + length es) x.1.form x.0 → IsOver (10 + length es) x.1.form → is_formed x.1.form ≡ true → IsFactOf before_it x.1.form x.1.facts → Keeps basics (es ++ x ∷ []) ds after_it
  keeps_push k a o u h =
      let s = stays_push k in
      let l : length (basics ++ forms_in es) ≡ 10 + length es = length-forms basics es k.basic in
      subst (λ (t : Table). Keeps basics (es ++ x ∷ []) ds t) (sym table_push)
      (record {
        basic = k.basic;
        keys = λ i e g. elim (push_cases es x i e g) [ inl j ↦ k.keys i e j | inr j ↦ rw (j.0, j.1) a ];
        formed = λ i e g. elim (push_cases es x i e g) [ inl j ↦ k.formed i e j | inr j ↦ rw j.1 u ];
        over = λ i e g. elim (push_cases es x i e g) [ inl j ↦ k.over i e j | inr j ↦ rw (j.0, j.1) o ];
        facts = λ i e g. elim (push_cases es x i e g) [
          | inl j ↦ fact_stays before_it (more before_it x.1.form) (10 + i) e.1.facts s (let w = slice_get_within es i e j in omega (arith, l, w)) (k.facts i e j)
          | inr j ↦ rw (j.0, j.1) (subst (λ n. IsFact (more before_it x.1.form) n x.1.facts) l (new_fact before_it x.1.form x.1.facts s u h))
        ];
        defined = λ i e g. definition_stays before_it (more before_it x.1.form) e.0 e.1 s (k.defined i e g);
        complete = subst AreComplete (sym (tags_kept before_it x.1.form ds refl k.defined)) k.complete;
        fields = ap have_fields (tags_kept before_it x.1.form ds refl k.defined) ∙ k.fields;
      })

  pub extends_push : Keeps basics es ds before_it → Extends before_it (more before_it x.1.form)
  extends_push k =
      let s = stays_push k in
      record {
        forms = (x.1.form ∷ [], refl);
        completed = ([], sym (append-nil before_it.completed));
        types_stay = s.means;
        tags_stay = ([], tags_kept before_it x.1.form ds refl k.defined);
        sizes_stay = s.known;
      }

pub extends_itself : (t : Table) → Extends t t
extends_itself t = record { forms = ([], sym (append-nil t.forms)); completed = ([], sym (append-nil t.completed)); types_stay = λ id l. refl; tags_stay = ([], refl); sizes_stay = λ n h. refl }

basic_not_formed : (id : ℕ) (f : TypeForm) → id < 10 → slice_get basic_forms id ≡ Some f → is_formed f ≡ true → ⊥
basic_not_formed zero f l h u = let e : form.Void ≡ f = cc in true≢false (sym u ∙ ap is_formed (sym e))
basic_not_formed (suc zero) f l h u = let e : form.Char ≡ f = cc in true≢false (sym u ∙ ap is_formed (sym e))
basic_not_formed (suc (suc zero)) f l h u = let e : form.SignedChar ≡ f = cc in true≢false (sym u ∙ ap is_formed (sym e))
basic_not_formed (suc (suc (suc zero))) f l h u = let e : form.UnsignedChar ≡ f = cc in true≢false (sym u ∙ ap is_formed (sym e))
basic_not_formed (suc (suc (suc (suc zero)))) f l h u = let e : form.Short ≡ f = cc in true≢false (sym u ∙ ap is_formed (sym e))
basic_not_formed (suc (suc (suc (suc (suc zero))))) f l h u = let e : form.UnsignedShort ≡ f = cc in true≢false (sym u ∙ ap is_formed (sym e))
basic_not_formed (suc (suc (suc (suc (suc (suc zero)))))) f l h u = let e : form.Int ≡ f = cc in true≢false (sym u ∙ ap is_formed (sym e))
basic_not_formed (suc (suc (suc (suc (suc (suc (suc zero))))))) f l h u = let e : form.Unsigned ≡ f = cc in true≢false (sym u ∙ ap is_formed (sym e))
basic_not_formed (suc (suc (suc (suc (suc (suc (suc (suc zero)))))))) f l h u = let e : form.Long ≡ f = cc in true≢false (sym u ∙ ap is_formed (sym e))
basic_not_formed (suc (suc (suc (suc (suc (suc (suc (suc (suc zero))))))))) f l h u = let e : form.UnsignedLong ≡ f = cc in true≢false (sym u ∙ ap is_formed (sym e))
basic_not_formed (suc (suc (suc (suc (suc (suc (suc (suc (suc (suc n)))))))))) f l h u = absurd (omega arith)

entry_of : (es : List (FormKey × Formed)) (i : ℕ) (f : TypeForm) → slice_get (forms_in es) i ≡ Some f → (e : FormKey × Formed) × (slice_get es i ≡ Some e) × (e.1.form ≡ f)
entry_of [] i f h = absurd (cc)
entry_of (e ∷ es) zero f h = (e, refl, cc)
entry_of (e ∷ es) (suc i) f h = entry_of es i f h

-- a form whose key isn't there has no place
pub is_new : (basics : List TypeForm) (es : List (FormKey × Formed)) (ds : List (ℕ × Definition)) (f : TypeForm) (k : FormKey) (p : ℕ) → Keeps basics es ds (table_of basics es ds) → IsKeyOf p f k → is_formed f ≡ true → lookup (eq k) es ≡ None → IsNew (table_of basics es ds) f
is_new basics es ds f k p keep h u n t id g = by (nat_lt id 10) refl
  where
    by : (b : Bool) → nat_lt id 10 ≡ b → ⊥
    by true d =
        let a : id < 10 = grind (arith, nat_tests) in
        basic_not_formed id f a (sym (before basic_forms (forms_in es) id a) ∙ (rw keep.basic at g)) u
    by false d =
        let i : id ≡ 10 + (id - 10) = (let a : 10 ≤ id = grind (arith, nat_tests) in omega arith) in
        let s : slice_get (forms_in es) (id - 10) ≡ Some f = sym (behind basic_forms (forms_in es) (id - 10)) ∙ ap (slice_get (basic_forms ++ forms_in es)) (sym i) ∙ (rw keep.basic at g) in
        let r = entry_of es (id - 10) f s in
        lookup_none (eq k) es (id - 10) r.0 r.1 n (same_keys p (10 + (id - 10)) f k r.0.0 h (subst (λ z. IsKeyOf (10 + (id - 10)) z r.0.0) r.2 (keep.keys (id - 10) r.0 r.1)) t u)

pub some_entry : {A : Type 0} (xs : List A) (i : ℕ) → i < length xs → (x : A) × (slice_get xs i ≡ Some x)
some_entry [] i l = absurd (omega arith)
some_entry (x ∷ xs) zero l = (x, refl)
some_entry (x ∷ xs) (suc i) l = some_entry xs i (omega arith)

length-keys : {V : Type 0} (es : List (FormKey × V)) → length (keys_of es) ≡ length es
length-keys [] = refl
length-keys (e ∷ es) = ap suc (length-keys es)

-- a form that is no structure, union or enumeration has no number
pub number_free : (ts : List CType) (n m : ℕ) (f : TypeForm) → is_tagged f ≡ false → formed ts n f ≡ formed ts m f
number_free ts n m form.Void h = refl
number_free ts n m form.Char h = refl
number_free ts n m form.SignedChar h = refl
number_free ts n m form.UnsignedChar h = refl
number_free ts n m form.Short h = refl
number_free ts n m form.UnsignedShort h = refl
number_free ts n m form.Int h = refl
number_free ts n m form.Unsigned h = refl
number_free ts n m form.Long h = refl
number_free ts n m form.UnsignedLong h = refl
number_free ts n m (form.Pointer to) h = refl
number_free ts n m (form.Array of z) h = refl
number_free ts n m (form.Function r ps z) h = refl
number_free ts n m form.Structure h = absurd (true≢false h)
number_free ts n m form.Union h = absurd (true≢false h)
number_free ts n m (form.Enumeration ms) h = absurd (true≢false h)
number_free ts n m (form.Qualified of q) h = refl

-- a form whose key is there has its place, and its type there
pub known_place : (basics : List TypeForm) (es : List (FormKey × Formed)) (ds : List (ℕ × Definition)) (f : TypeForm) (k : FormKey) (p i : ℕ) → Keeps basics es ds (table_of basics es ds) → IsKeyOf p f k → is_formed f ≡ true → p ≡ 10 + length es → Some i ≡ position (eq k) (keys_of es) →
    (is_tagged f ≡ false) × (slice_get (basics ++ forms_in es) (10 + i) ≡ Some f) × (type_at (table_of basics es ds) (10 + i) ≡ formed (types (table_of basics es ds)) (tagged (basics ++ forms_in es)) f) × (10 + i < length (basics ++ forms_in es))
known_place basics es ds f k p i keep h u l g =
    let t = position-Some (eq k) (keys_of es) i (key.Alone 0) (sym g) in
    let w : i < length es = (let a = t.0 in omega (arith, length-keys es)) in
    let r = some_entry es i w in
    let a : eq k r.0.0 ≡ true = ap (eq k) (sym (key_at es i (key.Alone 0) r.0 r.1)) ∙ t.1 in
    let s = same_forms p (10 + i) f r.0.1.form k r.0.0 h (keep.keys i r.0 r.1) u (keep.formed i r.0 r.1) (omega arith) a in
    let b : slice_get (basics ++ forms_in es) (10 + i) ≡ Some f = form_of_entry basics es i (10 + i) r.0 keep.basic refl r.1 ∙ ap Some (sym s.1) in
    let o : IsOver (10 + i) f = subst (IsOver (10 + i)) (sym s.1) (keep.over i r.0 r.1) in
    let T = table_of basics es ds in
    (s.0, b, type_by_form T (10 + i) f b o ∙ number_free (types T) (number_at T (10 + i)) (tagged T.forms) f s.0, (let z = length-forms basics es keep.basic in omega (arith, z)))

-- a basic form's type, and that it isn't one by itself
pub basic_formed : (id : ℕ) (f : TypeForm) (ts : List CType) (n : ℕ) → slice_get basic_forms id ≡ Some f → type_in (types_of basic_forms) id ≡ formed ts n f
basic_formed zero f ts n h = let e : form.Void ≡ f = cc in ap (formed ts n) e
basic_formed (suc zero) f ts n h = let e : form.Char ≡ f = cc in ap (formed ts n) e
basic_formed (suc (suc zero)) f ts n h = let e : form.SignedChar ≡ f = cc in ap (formed ts n) e
basic_formed (suc (suc (suc zero))) f ts n h = let e : form.UnsignedChar ≡ f = cc in ap (formed ts n) e
basic_formed (suc (suc (suc (suc zero)))) f ts n h = let e : form.Short ≡ f = cc in ap (formed ts n) e
basic_formed (suc (suc (suc (suc (suc zero))))) f ts n h = let e : form.UnsignedShort ≡ f = cc in ap (formed ts n) e
basic_formed (suc (suc (suc (suc (suc (suc zero)))))) f ts n h = let e : form.Int ≡ f = cc in ap (formed ts n) e
basic_formed (suc (suc (suc (suc (suc (suc (suc zero))))))) f ts n h = let e : form.Unsigned ≡ f = cc in ap (formed ts n) e
basic_formed (suc (suc (suc (suc (suc (suc (suc (suc zero)))))))) f ts n h = let e : form.Long ≡ f = cc in ap (formed ts n) e
basic_formed (suc (suc (suc (suc (suc (suc (suc (suc (suc zero))))))))) f ts n h = let e : form.UnsignedLong ≡ f = cc in ap (formed ts n) e
basic_formed (suc (suc (suc (suc (suc (suc (suc (suc (suc (suc m)))))))))) f ts n h = absurd (cc)

pub basic_untagged : (id : ℕ) (f : TypeForm) → slice_get basic_forms id ≡ Some f → is_tagged f ≡ false
basic_untagged zero f h = let e : form.Void ≡ f = cc in ap is_tagged (sym e)
basic_untagged (suc zero) f h = let e : form.Char ≡ f = cc in ap is_tagged (sym e)
basic_untagged (suc (suc zero)) f h = let e : form.SignedChar ≡ f = cc in ap is_tagged (sym e)
basic_untagged (suc (suc (suc zero))) f h = let e : form.UnsignedChar ≡ f = cc in ap is_tagged (sym e)
basic_untagged (suc (suc (suc (suc zero)))) f h = let e : form.Short ≡ f = cc in ap is_tagged (sym e)
basic_untagged (suc (suc (suc (suc (suc zero))))) f h = let e : form.UnsignedShort ≡ f = cc in ap is_tagged (sym e)
basic_untagged (suc (suc (suc (suc (suc (suc zero)))))) f h = let e : form.Int ≡ f = cc in ap is_tagged (sym e)
basic_untagged (suc (suc (suc (suc (suc (suc (suc zero))))))) f h = let e : form.Unsigned ≡ f = cc in ap is_tagged (sym e)
basic_untagged (suc (suc (suc (suc (suc (suc (suc (suc zero)))))))) f h = let e : form.Long ≡ f = cc in ap is_tagged (sym e)
basic_untagged (suc (suc (suc (suc (suc (suc (suc (suc (suc zero))))))))) f h = let e : form.UnsignedLong ≡ f = cc in ap is_tagged (sym e)
basic_untagged (suc (suc (suc (suc (suc (suc (suc (suc (suc (suc n)))))))))) f h = absurd (cc)
