-- The forms of a table are the basic ones and those of its entries.
use Rattle.std.proofs.Common.{◌≡◌, ℕ, zero, suc, ◌+◌, ◌<◌, List, [], ◌∷◌, ◌++◌, length, get_or, refl, ap, ◌∙◌, subst, arith}
use Rattle.std.specs.Prelude.{slice_get, Some}
use Rattle.std.proofs.lemmas.List.{length-append, get_or_append_left}
use Rattle.std.specs.Prelude.{false}
use Rattle.c_types.specs.CType.{depth}
use Rattle.c_types.specs.declared.type_form.TypeForm.{TypeForm}
use Rattle.c_types.specs.declared.form_key.FormKey.{FormKey}
use Rattle.c_types.specs.declared.type_table.Formed.{Formed}
use Rattle.c_types.specs.declared.type_form.TypeForm.TheVariants as form
use Rattle.c_types.specs.declared.definition.Definition.{Definition}
use Rattle.c_types.specs.Table.{Table, basic_forms, IsOver, form_at, is_qualified, type_at, type_in, types, types_of, number_at, formed}
use Rattle.c_types.specs.Keeps.{forms_in, completed_in}
use Rattle.c_types.proofs.Growing.{type_stays, type_of_place}

pub length-forms_in : (es : List (FormKey × Formed)) → length (forms_in es) ≡ length es
length-forms_in [] = refl
length-forms_in (e ∷ es) = ap suc (length-forms_in es)

pub length-forms : (basics : List TypeForm) (es : List (FormKey × Formed)) → basics ≡ basic_forms → length (basics ++ forms_in es) ≡ 10 + length es
length-forms basics es b = rw b (omega (arith, length-append basic_forms (forms_in es), length-forms_in es))

pub behind : {A : Type 0} (xs ys : List A) (i : ℕ) → slice_get (xs ++ ys) (length xs + i) ≡ slice_get ys i
behind [] ys i = let e : 0 + i ≡ i = omega arith in ap (slice_get ys) e
behind (x ∷ xs) ys i =
    let e : suc (length xs) + i ≡ suc (length xs + i) = omega arith in
    ap (slice_get (x ∷ (xs ++ ys))) e ∙ behind xs ys i

pub before : {A : Type 0} (xs ys : List A) (i : ℕ) → i < length xs → slice_get (xs ++ ys) i ≡ slice_get xs i
before [] ys i l = absurd (omega arith)
before (x ∷ xs) ys zero l = refl
before (x ∷ xs) ys (suc i) l = before xs ys i (omega arith)

pub forms_in_at : (es : List (FormKey × Formed)) (i : ℕ) (e : FormKey × Formed) → slice_get es i ≡ Some e → slice_get (forms_in es) i ≡ Some e.1.form
forms_in_at [] i e h = absurd (cc)
forms_in_at (x ∷ es) zero e h = let k : x ≡ e = cc in ap (λ (y : FormKey × Formed). Some y.1.form) k
forms_in_at (x ∷ es) (suc i) e h = forms_in_at es i e h

-- the form of an entry stands ten places behind it
pub form_of_entry : (basics : List TypeForm) (es : List (FormKey × Formed)) (i id : ℕ) (e : FormKey × Formed) → basics ≡ basic_forms → id ≡ 10 + i → slice_get es i ≡ Some e →
    slice_get (basics ++ forms_in es) id ≡ Some e.1.form
form_of_entry basics es i id e b p h = rw (b, p) (behind basic_forms (forms_in es) i ∙ forms_in_at es i e h)

-- a basic form names no other
pub basic_over : (id : ℕ) (f : TypeForm) → slice_get basic_forms id ≡ Some f → IsOver id f
basic_over zero f h = let e : form.Void ≡ f = cc in subst (IsOver 0) e tt
basic_over (suc zero) f h = let e : form.Char ≡ f = cc in subst (IsOver 1) e tt
basic_over (suc (suc zero)) f h = let e : form.SignedChar ≡ f = cc in subst (IsOver 2) e tt
basic_over (suc (suc (suc zero))) f h = let e : form.UnsignedChar ≡ f = cc in subst (IsOver 3) e tt
basic_over (suc (suc (suc (suc zero)))) f h = let e : form.Short ≡ f = cc in subst (IsOver 4) e tt
basic_over (suc (suc (suc (suc (suc zero))))) f h = let e : form.UnsignedShort ≡ f = cc in subst (IsOver 5) e tt
basic_over (suc (suc (suc (suc (suc (suc zero)))))) f h = let e : form.Int ≡ f = cc in subst (IsOver 6) e tt
basic_over (suc (suc (suc (suc (suc (suc (suc zero))))))) f h = let e : form.Unsigned ≡ f = cc in subst (IsOver 7) e tt
basic_over (suc (suc (suc (suc (suc (suc (suc (suc zero)))))))) f h = let e : form.Long ≡ f = cc in subst (IsOver 8) e tt
basic_over (suc (suc (suc (suc (suc (suc (suc (suc (suc zero))))))))) f h = let e : form.UnsignedLong ≡ f = cc in subst (IsOver 9) e tt
basic_over (suc (suc (suc (suc (suc (suc (suc (suc (suc (suc n)))))))))) f h = absurd (cc)

-- what a table's fields show
abbrev pub table_of : List TypeForm → List (FormKey × Formed) → List (ℕ × Definition) → Table
table_of basics es ds = record { forms = basics ++ forms_in es; completed = completed_in ds }

pub basic_type_at : (basics : List TypeForm) (es : List (FormKey × Formed)) (ds : List (ℕ × Definition)) (id : ℕ) → basics ≡ basic_forms → id < 10 →
    type_at (table_of basics es ds) id ≡ type_in (types_of basic_forms) id
basic_type_at basics es ds id b l = rw b (type_stays basic_forms (forms_in es) id l)

pub type_by_form : (t : Table) (id : ℕ) (f : TypeForm) → slice_get t.forms id ≡ Some f → IsOver id f → type_at t id ≡ formed (types t) (number_at t id) f
type_by_form t id f h o = type_of_place t.forms id f h o

basic_form_plain : (id : ℕ) → id < 10 → is_qualified (get_or basic_forms id form.Void) ≡ false
basic_form_plain zero l = refl
basic_form_plain (suc zero) l = refl
basic_form_plain (suc (suc zero)) l = refl
basic_form_plain (suc (suc (suc zero))) l = refl
basic_form_plain (suc (suc (suc (suc zero)))) l = refl
basic_form_plain (suc (suc (suc (suc (suc zero))))) l = refl
basic_form_plain (suc (suc (suc (suc (suc (suc zero)))))) l = refl
basic_form_plain (suc (suc (suc (suc (suc (suc (suc zero))))))) l = refl
basic_form_plain (suc (suc (suc (suc (suc (suc (suc (suc zero)))))))) l = refl
basic_form_plain (suc (suc (suc (suc (suc (suc (suc (suc (suc zero))))))))) l = refl
basic_form_plain (suc (suc (suc (suc (suc (suc (suc (suc (suc (suc n)))))))))) l = absurd (omega arith)

-- a basic type isn't qualified
pub basic_plain : (basics : List TypeForm) (es : List (FormKey × Formed)) (ds : List (ℕ × Definition)) (id : ℕ) → basics ≡ basic_forms → id < 10 →
    is_qualified (form_at (table_of basics es ds) id) ≡ false
basic_plain basics es ds id b l = rw b (ap is_qualified (get_or_append_left basic_forms (forms_in es) form.Void id l) ∙ basic_form_plain id l)

-- and its depth is 1
pub basic_depth : (id : ℕ) → id < 10 → depth (type_in (types_of basic_forms) id) ≡ 1
basic_depth zero l = refl
basic_depth (suc zero) l = refl
basic_depth (suc (suc zero)) l = refl
basic_depth (suc (suc (suc zero))) l = refl
basic_depth (suc (suc (suc (suc zero)))) l = refl
basic_depth (suc (suc (suc (suc (suc zero))))) l = refl
basic_depth (suc (suc (suc (suc (suc (suc zero)))))) l = refl
basic_depth (suc (suc (suc (suc (suc (suc (suc zero))))))) l = refl
basic_depth (suc (suc (suc (suc (suc (suc (suc (suc zero)))))))) l = refl
basic_depth (suc (suc (suc (suc (suc (suc (suc (suc (suc zero))))))))) l = refl
basic_depth (suc (suc (suc (suc (suc (suc (suc (suc (suc (suc n)))))))))) l = absurd (omega arith)
