-- Elements of lists by their places.
use Rattle.std.proofs.Common.{◌≡◌, ℕ, zero, suc, ◌⊎◌, List, [], ◌∷◌, ◌++◌, length, Some, refl, sym, ap, ◌∙◌, inl, inr}
use Rattle.std.specs.Prelude.{slice_get}
use Rattle.std.proofs.lemmas.Option.{none-some, same_Some}
use Rattle.lburg_model.specs.Description.{AreDistinct}

pub get_left : {A : Type 0} (xs ys : List A) (i : ℕ) (x : A) → slice_get xs i ≡ Some x → slice_get (xs ++ ys) i ≡ Some x
get_left [] ys i x h = absurd (none-some x h)
get_left (y ∷ xs) ys zero x h = h
get_left (y ∷ xs) ys (suc i) x h = get_left xs ys i x h

pub get_last : {A : Type 0} (xs ys : List A) (x : A) → slice_get (xs ++ x ∷ ys) (length xs) ≡ Some x
get_last [] ys x = refl
get_last (y ∷ xs) ys x = get_last xs ys x

pub get_push : {A : Type 0} (xs : List A) (x y : A) (i : ℕ) → slice_get (xs ++ x ∷ []) i ≡ Some y → (slice_get xs i ≡ Some y) ⊎ ((i ≡ length xs) × (x ≡ y))
get_push [] x y zero h = inr (refl, same_Some x y h)
get_push [] x y (suc i) h = absurd (none-some y h)
get_push (z ∷ xs) x y zero h = inl h
get_push (z ∷ xs) x y (suc i) h = elim (get_push xs x y i h) [ inl e ↦ inl e | inr e ↦ inr (ap suc e.0, e.1) ]

pub once_more : {A : Type 0} (xs : List A) (x : A) → AreDistinct xs → ((i : ℕ) → slice_get xs i ≡ Some x → ⊥) → AreDistinct (xs ++ x ∷ [])
once_more xs x h new = λ i j y e f.
    elim (get_push xs x y i e) [
      | inl a ↦ elim (get_push xs x y j f) [ inl b ↦ h i j y a b | inr b ↦ absurd (new i (a ∙ ap (λ z. Some z) (sym b.1))) ]
      | inr a ↦ elim (get_push xs x y j f) [ inl b ↦ absurd (new j (b ∙ ap (λ z. Some z) (sym a.1))) | inr b ↦ a.0 ∙ sym b.0 ]
    ]
