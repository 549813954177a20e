-- The unit's own objects and texts live.
use Rattle.std.proofs.Common.{◌≡◌, ℕ, zero, suc, ◌+◌, ◌==◌, ◌&&◌, Bool, true, false, Option, Some, None, List, [], ◌∷◌, ◌++◌, length, length-append, slice_get, refl, ap, subst, ◌∙◌, arith}
use Rattle.std.specs.Prelude.{is_none, if◌then◌else◌}
use Rattle.std.proofs.lemmas.Bool.{eq-eqb}
use Rattle.objects.specs.declared.value.ObjectName.{ObjectName}
use Rattle.objects.specs.declared.value.Value.{Value}
use Rattle.objects.specs.Causes.{is_dead}
use Rattle.objects.specs.Objects.{is_named, if_named}
use Rattle.objects.specs.Objects.{Object as Old}
use Rattle.c_types.specs.Layout.{Tag}
use Rattle.c_meaning.specs.Units.{ObjectTree, UnitTree}
use Rattle.c_runs.specs.Places.{size_of, static_place, place_of_object, place_of_text}
use Rattle.c_runs.specs.Soundness.{IsSound, Outline, outlines, text_outlines, own_outlines, declared}
use Rattle.c_runs.specs.Worlds.{World, objects}
use Rattle.c_match.specs.Values.{StaysInside}
use Rattle.c_pointers_agree.proofs.lemmas.Short.{object_at}

-- ---- where outlines stand

abbrev outline_of : ℕ → ℕ → Option Outline
outline_of made size = Some (record { made = made; size = size })

same_outline : (m n size long : ℕ) → m ≡ n → size ≡ long → outline_of m size ≡ outline_of n long
same_outline m n size long e f = cc

text_at : (n : ℕ) (ts : List (List ℕ)) (k : ℕ) (t : List ℕ) → slice_get ts k ≡ Some t → slice_get (text_outlines n ts) k ≡ outline_of (n + k) (length t + 1)
text_at n [] k t e = absurd (let never : ⊥ = cc in never)
text_at n (s ∷ ss) zero t e =
    let same : s ≡ t = cc in
    same_outline n (n + 0) (length (s ++ 0 ∷ [])) (length t + 1) (omega arith) (length-append s (0 ∷ []) ∙ ap (λ (x : List ℕ). length x + 1) same)
text_at n (s ∷ ss) (suc k) t e = text_at (n + 1) ss k t e ∙ same_outline (n + 1 + k) (n + suc k) (length t + 1) (length t + 1) (omega arith) refl

own_at : (tags : List Tag) (n : ℕ) (os : List ObjectTree) (ts : List (List ℕ)) (k : ℕ) (o : ObjectTree) → slice_get os k ≡ Some o → slice_get (own_outlines tags n os ts) k ≡ outline_of (n + k) (size_of tags o.of)
own_at tags n [] ts k o e = absurd (let never : ⊥ = cc in never)
own_at tags n (x ∷ xs) ts zero o e =
    let same : x ≡ o = cc in
    same_outline n (n + 0) (size_of tags x.of) (size_of tags o.of) (omega arith) (ap (λ (y : ObjectTree). size_of tags y.of) same)
own_at tags n (x ∷ xs) ts (suc k) o e = own_at tags (n + 1) xs ts k o e ∙ same_outline (n + 1 + k) (n + suc k) (size_of tags o.of) (size_of tags o.of) (omega arith) refl

own_text_at : (tags : List Tag) (n : ℕ) (os : List ObjectTree) (ts : List (List ℕ)) (k : ℕ) (t : List ℕ) → slice_get ts k ≡ Some t → slice_get (own_outlines tags n os ts) (length os + k) ≡ outline_of (n + (length os + k)) (length t + 1)
own_text_at tags n [] ts k t e =
    let none : 0 + k ≡ k = omega arith in
    ap (λ (i : ℕ). slice_get (text_outlines n ts) i) none ∙ text_at n ts k t e ∙ same_outline (n + k) (n + (0 + k)) (length t + 1) (length t + 1) (omega arith) refl
own_text_at tags n (x ∷ xs) ts k t e =
    let one : suc (length xs) + k ≡ suc (length xs + k) = omega arith in
    ap (λ (i : ℕ). slice_get (own_outlines tags n (x ∷ xs) ts) i) one
    ∙ own_text_at tags (n + 1) xs ts k t e
    ∙ same_outline (n + 1 + (length xs + k)) (n + (suc (length xs) + k)) (length t + 1) (length t + 1) (omega arith) refl

in_front : (xs ys : List Outline) (p : ℕ) (x : Outline) → slice_get xs p ≡ Some x → slice_get (xs ++ ys) p ≡ Some x
in_front [] ys p x e = absurd (let never : ⊥ = cc in never)
in_front (z ∷ zs) ys zero x e = e
in_front (z ∷ zs) ys (suc p) x e = in_front zs ys p x e

-- ---- what lives

both_true : (a b : Bool) → a ≡ true → b ≡ true → (a && b) ≡ true
both_true a b p q = cc

alive : (os : List Old) (place size : ℕ) → slice_get (outlines os) place ≡ outline_of place size → is_dead os (static_place place size) ≡ false
alive os place size e =
    let x = object_at os place (record { made = place; size = size }) e in
    let name : ObjectName = record { place = place; made = place; size = size } in
    let made : x.0.made ≡ place = ap (λ (o : Outline). o.made) x.2 in
    let long : length x.0.bytes ≡ size = ap (λ (o : Outline). o.size) x.2 in
    let named : is_named name x.0 ≡ true = both_true (x.0.made == place) (length x.0.bytes == size) (eq-eqb x.0.made place made) (eq-eqb (length x.0.bytes) size long) in
    ap (λ (o : Option Old). is_none (if_named name o)) x.1
    ∙ ap (λ (b : Bool). is_none (if b then Some x.0 else None)) named

own_alive : (u : UnitTree) (w : World) (place size : ℕ) → IsSound u w → slice_get (declared u) place ≡ outline_of (0 + place) size → is_dead (objects w) (static_place place size) ≡ false
own_alive u w place size h e =
    let there : slice_get (declared u) place ≡ outline_of place size = e ∙ same_outline (0 + place) place size size (omega arith) refl in
    alive (objects w) place size (ap (λ (os : List Outline). slice_get os place) h.live ∙ in_front (declared u) h.others place (record { made = place; size = size }) there)

is_place : (os : List Old) (place size : ℕ) (p : Value) → static_place place size ≡ p → is_dead os (static_place place size) ≡ false → (is_dead os p ≡ false) × StaysInside p
is_place os place size p e h = subst (λ (v : Value). (is_dead os v ≡ false) × StaysInside v) e (h, omega arith)

object_lives : (u : UnitTree) (w : World) (n : ℕ) (o : Option ObjectTree) (p : Value) → IsSound u w → slice_get u.objects n ≡ o → place_of_object u n o ≡ Some p → (is_dead (objects w) p ≡ false) × StaysInside p
object_lives u w n None p h e f = absurd (let never : ⊥ = cc in never)
object_lives u w n (Some o) p h e f =
    let same : static_place n (size_of u.tags o.of) ≡ p = cc in
    is_place (objects w) n (size_of u.tags o.of) p same (own_alive u w n (size_of u.tags o.of) h (own_at u.tags 0 u.objects u.texts n o e))

text_lives : (u : UnitTree) (w : World) (n : ℕ) (t : Option (List ℕ)) (p : Value) → IsSound u w → slice_get u.texts n ≡ t → place_of_text u n t ≡ Some p → (is_dead (objects w) p ≡ false) × StaysInside p
text_lives u w n None p h e f = absurd (let never : ⊥ = cc in never)
text_lives u w n (Some t) p h e f =
    let same : static_place (length u.objects + n) (length t + 1) ≡ p = cc in
    is_place (objects w) (length u.objects + n) (length t + 1) p same (own_alive u w (length u.objects + n) (length t + 1) h (own_text_at u.tags 0 u.objects u.texts n t e))

pub own_object_lives : (u : UnitTree) (w : World) (n : ℕ) (p : Value) → IsSound u w → place_of_object u n (slice_get u.objects n) ≡ Some p → (is_dead (objects w) p ≡ false) × StaysInside p
own_object_lives u w n p h e = object_lives u w n (slice_get u.objects n) p h refl e

pub own_text_lives : (u : UnitTree) (w : World) (n : ℕ) (p : Value) → IsSound u w → place_of_text u n (slice_get u.texts n) ≡ Some p → (is_dead (objects w) p ≡ false) × StaysInside p
own_text_lives u w n p h e = text_lives u w n (slice_get u.texts n) p h refl e
