-- A list of forms that gets one more keeps its types and has one more; a place has the type of its form.
use Rattle.std.proofs.Common.{◌≡◌, ℕ, zero, suc, ◌+◌, ◌<◌, List, [], ◌∷◌, ◌++◌, length, take, refl, sym, ap, ◌∙◌, subst, append_assoc, arith}
use Rattle.std.specs.Prelude.{slice_get, Some, None}
use Rattle.std.proofs.lemmas.List.{length-append, append-nil, get_or_append_left}
use Rattle.std.proofs.Math.Seq.{get_or-append_seam}
use Rattle.c_types.specs.declared.type_form.TypeForm.{TypeForm}
use Rattle.c_types.specs.declared.type_form.TypeForm.TheVariants as form
use Rattle.c_types.specs.CType.{CType, Plain, Array, Void, Pointer, Function, basic, qualify}
use Rattle.c_types.specs.Table.{types_after, types_of, type_in, types_in, parameters_in, formed, tagged, counted, IsOver, AreBelow}

pub types_push : (known : List CType) (n : ℕ) (fs : List TypeForm) (f : TypeForm) →
    types_after known n (fs ++ f ∷ []) ≡ types_after known n fs ++ formed (types_after known n fs) (n + tagged fs) f ∷ []
types_push known n [] f = let e : n + 0 ≡ n = omega arith in ap (λ k. known ++ formed known k f ∷ []) (sym e)
types_push known n (g ∷ fs) f =
    let next = known ++ formed known n g ∷ [] in
    let e : (n + counted g) + tagged fs ≡ n + (counted g + tagged fs) = omega arith in
    types_push next (n + counted g) fs f ∙ ap (λ k. types_after next (n + counted g) fs ++ formed (types_after next (n + counted g) fs) k f ∷ []) e

pub length-types : (known : List CType) (n : ℕ) (fs : List TypeForm) → length (types_after known n fs) ≡ length known + length fs
length-types known n [] = omega arith
length-types known n (f ∷ fs) =
    length-types (known ++ formed known n f ∷ []) (n + counted f) fs ∙ (omega (arith, length-append known (formed known n f ∷ [])))

-- what stands at a place of the front stands there in the whole
pub type_front : (ts more : List CType) (n : ℕ) → n < length ts → type_in (ts ++ more) n ≡ type_in ts n
type_front ts more n l = get_or_append_left ts more (basic Void) n l

pub types_front : (ts more : List CType) (ids : List ℕ) → AreBelow (length ts) ids → types_in (ts ++ more) ids ≡ types_in ts ids
types_front ts more [] h = refl
types_front ts more (id ∷ ids) h = rw (type_front ts more id h.0, types_front ts more ids h.1) refl

pub formed_front : (ts more : List CType) (n : ℕ) (f : TypeForm) → IsOver (length ts) f → formed (ts ++ more) n f ≡ formed ts n f
formed_front ts more n form.Void h = refl
formed_front ts more n form.Char h = refl
formed_front ts more n form.SignedChar h = refl
formed_front ts more n form.UnsignedChar h = refl
formed_front ts more n form.Short h = refl
formed_front ts more n form.UnsignedShort h = refl
formed_front ts more n form.Int h = refl
formed_front ts more n form.Unsigned h = refl
formed_front ts more n form.Long h = refl
formed_front ts more n form.UnsignedLong h = refl
formed_front ts more n (form.Pointer to) h = ap (λ t. Plain 0 (Pointer t)) (type_front ts more to h)
formed_front ts more n (form.Array of m) h = ap (λ t. Array t m) (type_front ts more of h)
formed_front ts more n (form.Function r None m) h = ap (λ t. Plain 0 (Function t (parameters_in ts None m))) (type_front ts more r h.0)
formed_front ts more n (form.Function r (Some ps) m) h = rw (type_front ts more r h.0, types_front ts more ps h.1) refl
formed_front ts more n form.Structure h = refl
formed_front ts more n form.Union h = refl
formed_front ts more n (form.Enumeration ms) h = refl
formed_front ts more n (form.Qualified of q) h = ap (qualify q.0) (type_front ts more of h)

-- the types grow at their end
pub types_begin : (known : List CType) (n : ℕ) (fs : List TypeForm) → (more : List CType) × (types_after known n fs ≡ known ++ more)
types_begin known n [] = ([], sym (append-nil known))
types_begin known n (f ∷ fs) =
    let x = formed known n f in
    let r = types_begin (known ++ x ∷ []) (n + counted f) fs in
    (x ∷ r.0, r.1 ∙ append_assoc known (x ∷ []) r.0)

-- the types of a longer list of forms begin with those of the shorter one
pub types_append : (known : List CType) (n : ℕ) (fs gs : List TypeForm) → types_after known n (fs ++ gs) ≡ types_after (types_after known n fs) (n + tagged fs) gs
types_append known n [] gs = let e : n + 0 ≡ n = omega arith in ap (λ k. types_after known k gs) (sym e)
types_append known n (f ∷ fs) gs =
    let e : (n + counted f) + tagged fs ≡ n + (counted f + tagged fs) = omega arith in
    types_append (known ++ formed known n f ∷ []) (n + counted f) fs gs ∙ ap (λ k. types_after (types_after (known ++ formed known n f ∷ []) (n + counted f) fs) k gs) e

pub type_stays : (fs gs : List TypeForm) (id : ℕ) → id < length fs → type_in (types_of (fs ++ gs)) id ≡ type_in (types_of fs) id
type_stays fs gs id l =
    let b = types_begin (types_of fs) (0 + tagged fs) gs in
    let m : id < length (types_of fs) = omega (arith, length-types [] 0 fs) in
    ap (λ ts. type_in ts id) (types_append [] 0 fs gs ∙ b.1) ∙ type_front (types_of fs) b.0 id m

pub types_stay : (fs gs : List TypeForm) (ids : List ℕ) → AreBelow (length fs) ids → types_in (types_of (fs ++ gs)) ids ≡ types_in (types_of fs) ids
types_stay fs gs [] h = refl
types_stay fs gs (id ∷ ids) h = rw (type_stays fs gs id h.0, types_stay fs gs ids h.1) refl

-- a type behind the types that it is over
seam : (known more : List CType) (x : CType) (k n : ℕ) (f : TypeForm) → k ≡ length known → IsOver k f → x ≡ formed known n f →
    type_in (known ++ x ∷ more) k ≡ formed (known ++ x ∷ more) n f
seam known more x k n f e o d =
    let a : type_in (known ++ x ∷ more) k ≡ x = rw e (get_or-append_seam known x more (basic Void)) in
    let g : formed (known ++ x ∷ more) n f ≡ formed known n f = formed_front known (x ∷ more) n f (subst (λ j. IsOver j f) e o) in
    a ∙ d ∙ sym g

form_at : (known : List CType) (n : ℕ) (fs : List TypeForm) (i : ℕ) (f : TypeForm) → slice_get fs i ≡ Some f → IsOver (length known + i) f →
    type_in (types_after known n fs) (length known + i) ≡ formed (types_after known n fs) (n + tagged (take i fs)) f
form_at known n [] i f e o = absurd (cc)
form_at known n (g ∷ fs) zero f e o =
    let h : g ≡ f = cc in
    let x = formed known n g in
    let r = types_begin (known ++ x ∷ []) (n + counted g) fs in
    let b : types_after known n (g ∷ fs) ≡ known ++ x ∷ r.0 = r.1 ∙ append_assoc known (x ∷ []) r.0 in
    let m : n + 0 ≡ n = omega arith in
    let d : x ≡ formed known (n + 0) f = ap (formed known n) h ∙ ap (λ k. formed known k f) (sym m) in
    rw b (seam known r.0 x (length known + 0) (n + 0) f (omega arith) o d)
form_at known n (g ∷ fs) (suc i) f e o =
    let x = formed known n g in
    let k : length (known ++ x ∷ []) + i ≡ length known + suc i = omega (arith, length-append known (x ∷ [])) in
    let m : (n + counted g) + tagged (take i fs) ≡ n + (counted g + tagged (take i fs)) = omega arith in
    let T = types_after (known ++ x ∷ []) (n + counted g) fs in
    let h = form_at (known ++ x ∷ []) (n + counted g) fs i f e (subst (λ j. IsOver j f) (sym k) o) in
    subst (λ j. type_in T j ≡ formed T (n + (counted g + tagged (take i fs))) f) k (h ∙ ap (λ j. formed T j f) m)

-- a place has the type of its form
pub type_of_place : (fs : List TypeForm) (i : ℕ) (f : TypeForm) → slice_get fs i ≡ Some f → IsOver i f →
    type_in (types_of fs) i ≡ formed (types_of fs) (tagged (take i fs)) f
type_of_place fs i f e o =
    let k : 0 + i ≡ i = omega arith in
    let m : 0 + tagged (take i fs) ≡ tagged (take i fs) = omega arith in
    let T = types_of fs in
    let h = form_at [] 0 fs i f e (subst (λ j. IsOver j f) (sym k) o) in
    subst (λ j. type_in T j ≡ formed T (tagged (take i fs)) f) k (h ∙ ap (λ j. formed T j f) m)
