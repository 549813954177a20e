-- The elements of a list, one behind the other.
use Rattle.std.specs.Prelude.{◌≡◌, ℕ, suc, ◌+◌, ◌<◌, ◌≤◌, All, List, [], ◌∷◌, ◌++◌, length, take, drop, get_or}
use Rattle.std.proofs.Common.{ap, sym, ◌∙◌, subst, arith, drop-cons}
use Rattle.std.proofs.lemmas.List.{take_all, take_more}
use Rattle.std.proofs.lemmas.List.Elements.{All-push}

pub left_is : {A : Type 0} (list : List A) (i : ℕ) (e : A) → i < length list → e ≡ get_or list i e → drop i list ≡ e ∷ drop (i + 1) list
left_is list i e lt is =
    drop-cons list i e lt ∙ ap (λ x. x ∷ drop (suc i) list) (sym is) ∙ ap (λ n. e ∷ drop n list) (let q : suc i ≡ i + 1 = omega arith in q)

pub taken : {A : Type 0} (list : List A) (i : ℕ) (e : A) → i < length list → e ≡ get_or list i e → take (i + 1) list ≡ take i list ++ e ∷ []
taken list i e lt is = take_more list i e lt ∙ ap (λ x. take i list ++ x ∷ []) (sym is)

pub all_more : {A : Type 0} (P : A → Type 0) (list : List A) (i : ℕ) (e : A) → i < length list → e ≡ get_or list i e → All P (take i list) → P e → All P (take (i + 1) list)
all_more {A} P list i e lt is h p = subst (λ (ys : List A). All P ys) (sym (taken list i e lt is)) (All-push P (take i list) e h p)

pub all_done : {A : Type 0} (P : A → Type 0) (list : List A) (i : ℕ) → length list ≤ i → All P (take i list) → All P list
all_done {A} P list i l h = subst (λ (ys : List A). All P ys) (take_all i list l) h
