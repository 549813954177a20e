-- What holds of each element of a list, how often a number stands in one, and names with linkage in a list of them.
use Rattle.std.proofs.Common.{◌≡◌, ◌⊎◌, ℕ, ◌+◌, ◌<◌, Bool, true, false, ◌||◌, List, [], ◌∷◌, ◌++◌, refl, sym, subst, ◌∙◌, inl, inr, arith}
use Rattle.std.specs.Prelude.{◌==◌, Option, Some, None, if◌then◌else◌}
use Rattle.std.specs.Str.{bytes_eq}
use Rattle.std.proofs.lemmas.Bool.{eqb-true}
use Rattle.std.proofs.lemmas.Bool.Decides.{nat_tests}
use Rattle.std.proofs.lemmas.Slice.Eq.{bytes_eq-Decides}
use Rattle.c_symbols.specs.Scoping.{symbol_named, found, or_else}
use Rattle.c_meaning.specs.Each.{EachIs}
use Rattle.c_units.specs.Ends.{is_link}
use Rattle.c_fits.proofs.lemmas.Booleans.{never, or_cases}
use Rattle.c_fits.proofs.lemmas.Lists.{some_id}

-- ---- each

pub each_map : {A : Type 0} (P Q : A → Type 0) → ((x : A) → P x → Q x) → (xs : List A) → EachIs P xs → EachIs Q xs
each_map P Q f [] h = tt
each_map P Q f (x ∷ xs) h = (f x h.0, each_map P Q f xs h.1)

-- ---- names

pub same_name : (a b : List ℕ) → bytes_eq a b ≡ true → a ≡ b
same_name a b e = (bytes_eq-Decides a b).0 e

-- the entry of a name that is found
pub each_named : (P : List ℕ × ℕ → Type 0) (ns : List (List ℕ × ℕ)) (name : List ℕ) (id : ℕ) → EachIs P ns → symbol_named ns name ≡ Some id → P (name, id)
each_named P [] name id h e = absurd (let none : ⊥ = cc in none)
each_named P (n ∷ ns) name id h e = by (bytes_eq name n.0) refl e (each_named P ns name id h.1)
  where
    by : (b : Bool) → bytes_eq name n.0 ≡ b → (if b then Some n.1 else symbol_named ns name) ≡ Some id → (symbol_named ns name ≡ Some id → P (name, id)) → P (name, id)
    by true q e k = subst (λ i. P (name, i)) (some_id n.1 id e) (subst (λ (a : List ℕ). P (a, n.1)) (sym (same_name name n.0 q)) h.0)
    by false q e k = k e

-- in the scopes, the last of which is the innermost
pub each_found : (P : List ℕ × ℕ → Type 0) (ss : List (List (List ℕ × ℕ))) (name : List ℕ) (id : ℕ) → EachIs (EachIs P) ss → found ss name ≡ Some id → P (name, id)
each_found P [] name id h e = absurd (let none : ⊥ = cc in none)
each_found P (s ∷ ss) name id h e = by (found ss name) refl e (each_found P ss name id h.1)
  where
    by : (o : Option ℕ) → found ss name ≡ o → or_else o (symbol_named s name) ≡ Some id → (found ss name ≡ Some id → P (name, id)) → P (name, id)
    by (Some i) q e k = k (q ∙ e)
    by None q e k = each_named P s name id h.0 e

-- ---- links

pub is_link_append : (xs ys : List (List ℕ × ℕ)) (id : ℕ) → is_link (xs ++ ys) id ≡ (is_link xs id || is_link ys id)
is_link_append [] ys id = refl
is_link_append (x ∷ xs) ys id = by (x.1 == id) (is_link_append xs ys id)
  where
    by : (b : Bool) → is_link (xs ++ ys) id ≡ (is_link xs id || is_link ys id) → (b || is_link (xs ++ ys) id) ≡ ((b || is_link xs id) || is_link ys id)
    by true e = refl
    by false e = e

pub each_link : (P : List ℕ × ℕ → Type 0) (ns : List (List ℕ × ℕ)) (id : ℕ) → EachIs P ns → is_link ns id ≡ true → (name : List ℕ) × P (name, id)
each_link P [] id h e = never (sym e)
each_link P (n ∷ ns) id h e = by (or_cases (n.1 == id) (is_link ns id) e) (each_link P ns id h.1)
  where
    by : ((n.1 == id) ≡ true) ⊎ (is_link ns id ≡ true) → (is_link ns id ≡ true → (name : List ℕ) × P (name, id)) → (name : List ℕ) × P (name, id)
    by (inl q) k = (n.0, subst (λ i. P (n.0, i)) (eqb-true n.1 id q) h.0)
    by (inr q) k = k q

pub named_link : (ns : List (List ℕ × ℕ)) (name : List ℕ) (id : ℕ) → symbol_named ns name ≡ Some id → is_link ns id ≡ true
named_link [] name id e = absurd (let none : ⊥ = cc in none)
named_link (n ∷ ns) name id e = by (bytes_eq name n.0) e (named_link ns name id)
  where
    other : (b : Bool) → is_link ns id ≡ true → (b || is_link ns id) ≡ true
    other true q = refl
    other false q = q

    by : (b : Bool) → (if b then Some n.1 else symbol_named ns name) ≡ Some id → (symbol_named ns name ≡ Some id → is_link ns id ≡ true) → is_link (n ∷ ns) id ≡ true
    by true e k = let q = some_id n.1 id e in grind (arith, nat_tests)
    by false e k = other (n.1 == id) (k e)

-- how often a symbol stands among links
abbrev pub one_if : Bool → ℕ
one_if true = 1
one_if false = 0

abbrev pub times_in : List (List ℕ × ℕ) → ℕ → ℕ
times_in [] id = 0
times_in (n ∷ ns) id = one_if (n.1 == id) + times_in ns id

pub times_append : (xs ys : List (List ℕ × ℕ)) (id : ℕ) → times_in (xs ++ ys) id ≡ times_in xs id + times_in ys id
times_append [] ys id = omega arith
times_append (x ∷ xs) ys id = let e = times_append xs ys id in omega (arith, e)

pub times_below : (ns : List (List ℕ × ℕ)) (id : ℕ) → EachIs (λ (n : List ℕ × ℕ). n.1 < id) ns → times_in ns id ≡ 0
times_below [] id h = refl
times_below (n ∷ ns) id h = by (n.1 == id) refl (times_below ns id h.1)
  where
    by : (b : Bool) → (n.1 == id) ≡ b → times_in ns id ≡ 0 → one_if b + times_in ns id ≡ 0
    by true q e = let l : n.1 < id = h.0 in let q2 = eqb-true n.1 id q in omega (arith, l, q2)
    by false q e = omega (arith, e)
