-- The place of a name among names, and names that stand once.
use Rattle.std.proofs.Common.{◌≡◌, ℕ, ◌<◌, ◌⊎◌, Bool, true, false, cond, zero, suc, List, [], ◌∷◌, ◌++◌, length, get_or, Option, Some, None, refl, sym, ap, ◌∙◌, subst, inl, inr, arith}
use Rattle.std.specs.Prelude.{slice_get}
use Rattle.std.specs.List.{position_or_len}
use Rattle.std.proofs.lemmas.List.Sums.{fails_before_first}
use Rattle.std.specs.List.{list_any}
use Rattle.std.specs.Str.{bytes_eq}
use Rattle.std.proofs.lemmas.Option.{slice_get-get_or, get_or_from_slice_get, slice_get_within, none-some, same_Some}
use Rattle.std.proofs.lemmas.Bool.{lt-ltb}
use Rattle.std.proofs.Math.Bool.{or-true}
use Rattle.std.proofs.lemmas.List.Quantifiers.{position-Some}
use Rattle.std.proofs.lemmas.Slice.Eq.{bytes_eq-Decides}
use Rattle.lcc_text.specs.Names.{with_name, place_of}

same : (a b : List ℕ) → bytes_eq a b ≡ true → a ≡ b
same a b h = (bytes_eq-Decides a b).0 h

itself : (a : List ℕ) → bytes_eq a a ≡ true
itself a = (bytes_eq-Decides a a).1 refl

unlike : (n name : List ℕ) → (n ≡ name → ⊥) → bytes_eq name n ≡ false
unlike n name h = settled (bytes_eq name n) refl where
  settled : (b : Bool) → bytes_eq name n ≡ b → b ≡ false
  settled true e = absurd (h (sym (same name n e)))
  settled false e = refl

-- the name stands at its place
pub place_some : (names : List (List ℕ)) (name : List ℕ) (i : ℕ) → place_of names name ≡ Some i → slice_get names i ≡ Some name
place_some names name i h =
    let p = position-Some (bytes_eq name) names i [] h in
    slice_get-get_or names i [] p.0 ∙ ap (λ (n : List ℕ). Some n) (sym (same name (get_or names i []) p.1))

aside : (b : Bool) (i : ℕ) → b ≡ true → cond b (Some i) None ≡ None → ⊥
aside b i e h = let P : Bool → Type 0 = λ x. cond x (Some i) None ≡ None in let k = subst P e h in cc

-- a name that has no place stands nowhere
pub place_none : (names : List (List ℕ)) (name : List ℕ) (i : ℕ) → place_of names name ≡ None → slice_get names i ≡ Some name → ⊥
place_none names name i h g =
    let w : i < length names = slice_get_within names i name g in
    let e : get_or names i [] ≡ name = get_or_from_slice_get names i name [] g in
    let t : bytes_eq name (get_or names i []) ≡ true = rw e (itself name) in
    let f : i < position_or_len (bytes_eq name) names → ⊥ = λ l. (let u : bytes_eq name (get_or names i []) ≡ false = fails_before_first (bytes_eq name) names i [] l in cc) in
    let l : position_or_len (bytes_eq name) names < length names = omega (arith, f) in
    aside _ _ (lt-ltb _ _ l) h

-- the place of a name that stands once
pub place_here : (names : List (List ℕ)) (name : List ℕ) (i : ℕ) → ((j : ℕ) → slice_get names j ≡ Some name → j ≡ i) → slice_get names i ≡ Some name → place_of names name ≡ Some i
place_here names name i once h = settled (place_of names name) refl where
  settled : (o : Option ℕ) → place_of names name ≡ o → o ≡ Some i
  settled None e = absurd (place_none names name i e h)
  settled (Some j) e = ap (λ (n : ℕ). Some n) (once j (place_some names name j e))

-- a name stands among names, or it doesn't
pub known_or_new : (names : List (List ℕ)) (name : List ℕ) → ((i : ℕ) × (slice_get names i ≡ Some name)) ⊎ ((i : ℕ) → slice_get names i ≡ Some name → ⊥)
known_or_new names name = settled (place_of names name) refl where
  settled : (o : Option ℕ) → place_of names name ≡ o → ((i : ℕ) × (slice_get names i ≡ Some name)) ⊎ ((i : ℕ) → slice_get names i ≡ Some name → ⊥)
  settled None e = inr (λ i h. place_none names name i e h)
  settled (Some j) e = inl (j, place_some names name j e)

any_known : (names : List (List ℕ)) (name : List ℕ) (i : ℕ) → slice_get names i ≡ Some name → list_any (bytes_eq name) names ≡ true
any_known [] name i h = absurd (none-some name h)
any_known (n ∷ ns) name zero h = rw (same_Some n name h, itself name) refl
any_known (n ∷ ns) name (suc i) h = rw (any_known ns name i h) (or-true (bytes_eq name n))

any_new : (names : List (List ℕ)) (name : List ℕ) → ((i : ℕ) → slice_get names i ≡ Some name → ⊥) → list_any (bytes_eq name) names ≡ false
any_new [] name h = refl
any_new (n ∷ ns) name h = rw (any_new ns name (λ i g. h (suc i) g), unlike n name (λ e. h 0 (ap (λ (x : List ℕ). Some x) e))) refl

pub with_known : (names : List (List ℕ)) (name : List ℕ) (i : ℕ) → slice_get names i ≡ Some name → with_name names name ≡ names
with_known names name i h = rw (any_known names name i h) refl

pub with_new : (names : List (List ℕ)) (name : List ℕ) → ((i : ℕ) → slice_get names i ≡ Some name → ⊥) → with_name names name ≡ names ++ name ∷ []
with_new names name h = rw (any_new names name h) refl
