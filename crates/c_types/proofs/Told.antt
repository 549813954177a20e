-- What is told of the definition of a structure or union agrees with its form.
use Rattle.std.proofs.Common.{◌≡◌, ℕ, ◌<◌, Bool, true, false, List, [], ◌∷◌, ◌++◌, length, refl, sym, ap, ◌∙◌, subst, true≢false}
use Rattle.std.specs.Prelude.{◌==◌, ◌||◌, if◌then◌else◌}
use Rattle.c_types.specs.declared.type_form.TypeForm.{TypeForm}
use Rattle.c_types.specs.declared.type_form.TypeForm.TheVariants as form
use Rattle.c_types.specs.CType.{CType, Plain, Array, qualify}
use Rattle.c_types.specs.Definitions.{IsToldIn, is_union_in}
use Rattle.c_types.specs.Layout.{Tag}
use Rattle.c_types.specs.Members.{is_defined}
use Rattle.c_types.specs.Table.{Table, Completed, form_at, formed, is_qualified, is_tagged, is_union, number_at, tag_of, tags, tags_of, types}
use Rattle.c_types.proofs.Defined.{AreOpen, eq_of, open_tagged, same_number}

-- each definition of the number is of a union, or none is
abbrev AreAll : List Tag → ℕ → Bool → Type 0
AreAll [] n u = Unit {0}
AreAll (tag ∷ tags) n u = ((n == tag.number) ≡ true → tag.is_union ≡ u) × AreAll tags n u

all_push : (tags : List Tag) (tag : Tag) (n : ℕ) (u : Bool) → AreAll tags n u → ((n == tag.number) ≡ true → tag.is_union ≡ u) → AreAll (tags ++ tag ∷ []) n u
all_push [] tag n u h e = (e, tt)
all_push (t ∷ ts) tag n u h e = (h.0, all_push ts tag n u h.1 e)

all_kinds : (t : Table) (cs : List Completed) (id : ℕ) → AreOpen t cs → id < length t.forms → is_tagged (form_at t id) ≡ true → AreAll (tags_of t cs) (number_at t id) (is_union (form_at t id))
all_kinds t [] id o l g = tt
all_kinds t (c ∷ cs) id o l g =
    all_push (tags_of t cs) (tag_of t c) (number_at t id) (is_union (form_at t id)) (all_kinds t cs id o.2 l g)
    (λ e. ap (λ i. is_union (form_at t i)) (sym (same_number t id c.place l g o.0 (open_tagged (form_at t c.place) o.1) (eq_of (number_at t id) (number_at t c.place) e))))

kind_defined : (tags : List Tag) (n : ℕ) (u : Bool) → AreAll tags n u → is_defined tags n ≡ true → is_union_in tags n ≡ u
kind_defined [] n u h d = absurd (true≢false (sym d))
kind_defined (tag ∷ tags) n u h d = by (n == tag.number) h.0 d (kind_defined tags n u h.1)
  where
    by : (b : Bool) → (b ≡ true → tag.is_union ≡ u) → (b || is_defined tags n) ≡ true → (is_defined tags n ≡ true → is_union_in tags n ≡ u) → (if b then tag.is_union else is_union_in tags n) ≡ u
    by true e d rest = e refl
    by false e d rest = rest d

kind_false : (tags : List Tag) (n : ℕ) → AreAll tags n false → is_union_in tags n ≡ false
kind_false [] n h = refl
kind_false (tag ∷ tags) n h = by (n == tag.number) h.0 (kind_false tags n h.1)
  where
    by : (b : Bool) → (b ≡ true → tag.is_union ≡ false) → is_union_in tags n ≡ false → (if b then tag.is_union else is_union_in tags n) ≡ false
    by true e rest = e refl
    by false e rest = rest

told_qualify : (tags : List Tag) (q : ℕ) (t : CType) → IsToldIn tags t → IsToldIn tags (qualify q t)
told_qualify tags q (Plain p k) h = h
told_qualify tags q (Array of n) h = tt

told_form : (t : Table) (id : ℕ) (f : TypeForm) → AreOpen t t.completed → id < length t.forms → form_at t id ≡ f → is_qualified f ≡ false → IsToldIn (tags t) (formed (types t) (number_at t id) f)
told_form t id form.Void o l e q = tt
told_form t id form.Char o l e q = tt
told_form t id form.SignedChar o l e q = tt
told_form t id form.UnsignedChar o l e q = tt
told_form t id form.Short o l e q = tt
told_form t id form.UnsignedShort o l e q = tt
told_form t id form.Int o l e q = tt
told_form t id form.Unsigned o l e q = tt
told_form t id form.Long o l e q = tt
told_form t id form.UnsignedLong o l e q = tt
told_form t id (form.Pointer to) o l e q = tt
told_form t id (form.Array of n) o l e q = tt
told_form t id (form.Function r ps m) o l e q = tt
told_form t id (form.Enumeration ms) o l e q = tt
told_form t id (form.Qualified of p) o l e q = absurd (true≢false q)
told_form t id form.Structure o l e q =
    let h = all_kinds t t.completed id o l (ap is_tagged e) in
    kind_false (tags t) (number_at t id) (subst (AreAll (tags t) (number_at t id)) (ap is_union e) h)
told_form t id form.Union o l e q = λ d.
    let h = all_kinds t t.completed id o l (ap is_tagged e) in
    kind_defined (tags t) (number_at t id) true (subst (AreAll (tags t) (number_at t id)) (ap is_union e) h) d

pub told : (t : Table) (id q : ℕ) (f : TypeForm) (s u : CType) → AreOpen t t.completed → id < length t.forms → form_at t id ≡ f → is_qualified f ≡ false → u ≡ formed (types t) (number_at t id) f → s ≡ qualify q u → IsToldIn (tags t) s
told t id q f s u o l e p m n = subst (IsToldIn (tags t)) (sym (n ∙ ap (qualify q) m)) (told_qualify (tags t) q (formed (types t) (number_at t id) f) (told_form t id f o l e p))
