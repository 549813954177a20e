-- The element at a place of a list, and those behind it.
use Rattle.std.specs.Prelude.{◌≡◌, ℕ, suc, ◌+◌, ◌<◌, List, [], ◌∷◌, ◌++◌, length, map, take, drop, get_or}
use Rattle.std.proofs.Common.{ap, sym, ◌∙◌, arith, drop-cons}
use Rattle.std.proofs.lemmas.List.{map-append, take_more}

pub left_is : {A : Type 0} (list : List A) (i : ℕ) (e : A) → i < length list → e ≡ get_or list i e → drop i list ≡ e ∷ drop (i + 1) list
left_is list i e lt is =
    drop-cons list i e lt ∙ ap (λ x. x ∷ drop (suc i) list) (sym is) ∙ ap (λ n. e ∷ drop n list) (let q : suc i ≡ i + 1 = omega arith in q)

-- what each of those before it comes to, and it
pub map_more : {A B : Type 0} (f : A → B) (list : List A) (new old : List B) (i : ℕ) (e : A) → i < length list → e ≡ get_or list i e → old ≡ map f (take i list) → new ≡ old ++ f e ∷ [] → new ≡ map f (take (i + 1) list)
map_more f list new old i e lt is h n =
    n ∙ ap (λ ys. ys ++ f e ∷ []) h ∙ sym (map-append f (take i list) (e ∷ [])) ∙ sym (ap (map f) (take_more list i e lt ∙ ap (λ x. take i list ++ x ∷ []) (sym is)))
