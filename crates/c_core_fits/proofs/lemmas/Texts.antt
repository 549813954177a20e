-- The texts of a unit are different, and each of its string literals is one of them.
use Rattle.std.proofs.Common.{◌≡◌, ℕ, suc, ◌+◌, Bool, true, false, not, ◌||◌, List, [], ◌∷◌, ◌++◌, inr, refl, sym, ap, subst, ◌∙◌, arith}
use Rattle.std.specs.Prelude.{Option, Some, slice_get, if◌then◌else◌}
use Rattle.std.specs.Str.{bytes_eq}
use Rattle.std.proofs.lemmas.Slice.Eq.{bytes_eq-Decides}
use Rattle.c_meaning.specs.Declarations.{or_zero}
use Rattle.c_meaning.specs.Each.{EachIs}
use Rattle.c_meaning.specs.Units.{are_different, is_same_among}
use Rattle.c_units.specs.Functions.{place_from, place_in}
use Rattle.c_units.specs.Wholes.{once}
use Rattle.c_fits.proofs.lemmas.Booleans.{and_left, and_right, and_true, negated, not_true, or_false, or_left, or_right, or_true}
use Rattle.c_core_fits.proofs.lemmas.Lists.{first, later}

-- ---- they are different

pub same_bytes : (a : List ℕ) → bytes_eq a a ≡ true
same_bytes a = (bytes_eq-Decides a a).1 refl

other_bytes : (a b : List ℕ) → bytes_eq a b ≡ false → bytes_eq b a ≡ false
other_bytes a b h = by (bytes_eq b a) refl
  where
    by : (x : Bool) → bytes_eq b a ≡ x → x ≡ false
    by false e = refl
    by true e = let g : bytes_eq a b ≡ true = (bytes_eq-Decides a b).1 (sym ((bytes_eq-Decides b a).0 e)) in sym g ∙ h

among_push : (a t : List ℕ) (ts : List (List ℕ)) → is_same_among a ts ≡ false → bytes_eq a t ≡ false → is_same_among a (ts ++ t ∷ []) ≡ false
among_push a t [] h e = rw e
among_push a t (s ∷ ts) h e =
    or_false (bytes_eq a s) (is_same_among a (ts ++ t ∷ [])) (or_left (bytes_eq a s) (is_same_among a ts) h) (among_push a t ts (or_right (bytes_eq a s) (is_same_among a ts) h) e)

different_push : (ts : List (List ℕ)) (t : List ℕ) → are_different ts ≡ true → is_same_among t ts ≡ false → are_different (ts ++ t ∷ []) ≡ true
different_push [] t h e = refl
different_push (s ∷ ts) t h e =
    let a = not_true (is_same_among s ts) (and_left (not (is_same_among s ts)) (are_different ts) h) in
    let r = different_push ts t (and_right (not (is_same_among s ts)) (are_different ts) h) (or_right (bytes_eq t s) (is_same_among t ts) e) in
    let n = among_push s t ts a (other_bytes t s (or_left (bytes_eq t s) (is_same_among t ts) e)) in
    and_true (not (is_same_among s (ts ++ t ∷ []))) (are_different (ts ++ t ∷ [])) (negated (is_same_among s (ts ++ t ∷ [])) n) r

pub once_different : (before ts : List (List ℕ)) → are_different before ≡ true → are_different (once before ts) ≡ true
once_different before [] h = h
once_different before (t ∷ ts) h = by (is_same_among t before) refl (λ us k. once_different us ts k)
  where
    by : (b : Bool) → is_same_among t before ≡ b → ((us : List (List ℕ)) → are_different us ≡ true → are_different (once us ts) ≡ true) → are_different (once (if b then before else before ++ t ∷ []) ts) ≡ true
    by true e r = r before h
    by false e r = r (before ++ t ∷ []) (different_push before t h e)

-- ---- each is there

among_behind : (a : List ℕ) (ts us : List (List ℕ)) → is_same_among a ts ≡ true → is_same_among a (ts ++ us) ≡ true
among_behind a [] us h = absurd (let none : ⊥ = cc in none)
among_behind a (t ∷ ts) us h = by (bytes_eq a t) h (among_behind a ts us)
  where
    by : (b : Bool) → (b || is_same_among a ts) ≡ true → (is_same_among a ts ≡ true → is_same_among a (ts ++ us) ≡ true) → (b || is_same_among a (ts ++ us)) ≡ true
    by true k r = refl
    by false k r = r k

among_last : (a : List ℕ) (ts : List (List ℕ)) → is_same_among a (ts ++ a ∷ []) ≡ true
among_last a [] = rw (same_bytes a) refl
among_last a (t ∷ ts) = or_true (bytes_eq a t) (is_same_among a (ts ++ a ∷ [])) (inr (among_last a ts))

once_keeps : (a : List ℕ) (before ts : List (List ℕ)) → is_same_among a before ≡ true → is_same_among a (once before ts) ≡ true
once_keeps a before [] h = h
once_keeps a before (t ∷ ts) h = by (is_same_among t before) (λ us k. once_keeps a us ts k)
  where
    by : (b : Bool) → ((us : List (List ℕ)) → is_same_among a us ≡ true → is_same_among a (once us ts) ≡ true) → is_same_among a (once (if b then before else before ++ t ∷ []) ts) ≡ true
    by true r = r before h
    by false r = r (before ++ t ∷ []) (among_behind a before (t ∷ []) h)

abbrev IsAmong : List (List ℕ) → List ℕ → Type 0
IsAmong ts a = is_same_among a ts ≡ true

once_has : (before ts : List (List ℕ)) → EachIs (IsAmong (once before ts)) ts
once_has before [] = tt
once_has before (t ∷ ts) = by (is_same_among t before) refl (λ us. once_has us ts)
  where
    by : (b : Bool) → is_same_among t before ≡ b → ((us : List (List ℕ)) → EachIs (IsAmong (once us ts)) ts) → EachIs (IsAmong (once (if b then before else before ++ t ∷ []) ts)) (t ∷ ts)
    by true e r = (once_keeps t before ts e, r before)
    by false e r = (once_keeps t (before ++ t ∷ []) ts (among_last t before), r (before ++ t ∷ []))

-- ---- by its place

-- a text is where one looks for it
abbrev pub IsText : List (List ℕ) → List ℕ → Type 0
IsText texts a = slice_get texts (or_zero (place_in texts a)) ≡ Some a

-- the place of a text behind so many others
abbrev StandsAt : ℕ → List (List ℕ) → List ℕ → Type 0
StandsAt k ts a = (i : ℕ) × (place_from k ts a ≡ Some (k + i)) × (slice_get ts i ≡ Some a)

place_found : (k : ℕ) (ts : List (List ℕ)) (a : List ℕ) → is_same_among a ts ≡ true → StandsAt k ts a
place_found k [] a h = absurd (let none : ⊥ = cc in none)
place_found k (t ∷ ts) a h = by (bytes_eq a t) refl h (place_found (suc k) ts a)
  where
    by : (b : Bool) → bytes_eq a t ≡ b → (b || is_same_among a ts) ≡ true → (is_same_among a ts ≡ true → StandsAt (suc k) ts a) → (i : ℕ) × ((if b then Some k else place_from (suc k) ts a) ≡ Some (k + i)) × (slice_get (t ∷ ts) i ≡ Some a)
    by true e g f = (0, ap Some (first k k refl), ap Some (sym ((bytes_eq-Decides a t).0 e)))
    by false e g f = let r = f g in (suc r.0, r.1 ∙ ap Some (later k r.0), r.2)

text_found : (ts : List (List ℕ)) (a : List ℕ) → is_same_among a ts ≡ true → IsText ts a
text_found ts a h =
    let r = place_found 0 ts a h in
    let z : 0 + r.0 ≡ r.0 = omega arith in
    subst (λ (o : Option ℕ). slice_get ts (or_zero o) ≡ Some a) (sym (r.1 ∙ ap Some z)) r.2

all_found : (texts ts : List (List ℕ)) → EachIs (IsAmong texts) ts → EachIs (IsText texts) ts
all_found texts [] h = tt
all_found texts (t ∷ ts) h = (text_found texts t h.0, all_found texts ts h.1)

pub once_found : (ts : List (List ℕ)) → EachIs (IsText (once [] ts)) ts
once_found ts = all_found (once [] ts) ts (once_has [] ts)
