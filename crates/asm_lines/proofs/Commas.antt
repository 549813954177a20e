-- The steps of loops that add items behind commas.
use Rattle.std.proofs.Common.{◌≡◌, ◌<◌, ◌≤◌, ◌+◌, ℕ, List, [], ◌∷◌, ◌++◌, length, map, take, drop, get_or, refl, subst, sym, ap, ◌∙◌, append_assoc}
use Rattle.std.proofs.lemmas.List.{append-nil, at_drop_more, at_drop_all, take_more, take_all}
use Rattle.std.proofs.lemmas.List.Elements.{All-nil, All-cons, All-head, All-tail, All-push}
use Rattle.std.specs.Prelude.{All}
use Rattle.asm_lines.specs.Printed.{more_text, listed_text}

-- one more item behind a comma
pub more_step : {A : Type 0} (text : A → List ℕ) (now new full : List ℕ) (xs : List A) (i : ℕ) (d : A) → i < length xs → now ++ more_text text (drop i xs) ≡ full → new ≡ now ++ 44 ∷ text (get_or xs i d) → new ++ more_text text (drop (i + 1) xs) ≡ full
more_step {A} text now new full xs i d l h e =
    let a : more_text text (drop i xs) ≡ 44 ∷ (text (get_or xs i d) ++ more_text text (drop (i + 1) xs)) = at_drop_more (more_text text) xs i d l in
    ap (λ z. z ++ more_text text (drop (i + 1) xs)) e ∙ append_assoc now (44 ∷ text (get_or xs i d)) (more_text text (drop (i + 1) xs)) ∙ ap (λ z. now ++ z) (sym a) ∙ h

pub more_done : {A : Type 0} (text : A → List ℕ) (now full : List ℕ) (xs : List A) (i : ℕ) → length xs ≤ i → now ++ more_text text (drop i xs) ≡ full → now ≡ full
more_done {A} text now full xs i l h = sym (append-nil now) ∙ ap (λ z. now ++ z) (sym (at_drop_all (more_text text) xs i l)) ∙ h

-- the first item, and then the others, which are seen as items of another kind
more_map : {A B : Type 0} (text : B → List ℕ) (seen : A → B) (xs : List A) → more_text (λ a. text (seen a)) xs ≡ more_text text (map seen xs)
more_map {A} {B} text seen [] = refl
more_map {A} {B} text seen (x ∷ xs) = ap (λ (l : List ℕ). 44 ∷ (text (seen x) ++ l)) (more_map text seen xs)

pub listed_seen : {A B : Type 0} (text : B → List ℕ) (seen : A → B) (xs more : List A) (first : A) (old mid new : List ℕ) → xs ≡ first ∷ more → mid ≡ old ++ text (seen first) → new ≡ mid ++ more_text (λ a. text (seen a)) more → new ≡ old ++ listed_text text (map seen xs)
listed_seen {A} {B} text seen xs more first old mid new e f g =
    g ∙ ap (λ z. z ++ more_text (λ a. text (seen a)) more) f ∙ append_assoc old (text (seen first)) (more_text (λ a. text (seen a)) more) ∙ ap (λ z. old ++ (text (seen first) ++ z)) (more_map text seen more) ∙ ap (λ (l : List A). old ++ listed_text text (map seen l)) (sym e)

-- ---- what holds of each item

pub all_more : {A : Type 0} (P : A → Type 0) (xs : List A) (i : ℕ) (d : A) → i < length xs → All P (take i xs) → P (get_or xs i d) → All P (take (i + 1) xs)
all_more {A} P xs i d l h p = subst (λ (ys : List A). All P ys) (sym (take_more xs i d l)) (All-push P (take i xs) (get_or xs i d) h p)

pub all_done : {A : Type 0} (P : A → Type 0) (xs : List A) (i : ℕ) → length xs ≤ i → All P (take i xs) → All P xs
all_done {A} P xs i l h = subst (λ (ys : List A). All P ys) (take_all i xs l) h

pub all_seen : {A B : Type 0} (P : B → Type 0) (seen : A → B) (xs : List A) → All (λ a. P (seen a)) xs → All P (map seen xs)
all_seen {A} {B} P seen [] h = All-nil P
all_seen {A} {B} P seen (x ∷ xs) h = All-cons P (seen x) (map seen xs) (All-head (λ a. P (seen a)) x xs h) (all_seen P seen xs (All-tail (λ a. P (seen a)) x xs h))

pub all_first : {A B : Type 0} (P : B → Type 0) (seen : A → B) (xs more : List A) (first : A) → xs ≡ first ∷ more → P (seen first) → All (λ a. P (seen a)) more → All P (map seen xs)
all_first {A} {B} P seen xs more first e p h = subst (λ (l : List A). All P (map seen l)) (sym e) (All-cons P (seen first) (map seen more) p (all_seen P seen more h))
