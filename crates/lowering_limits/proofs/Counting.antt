-- Sums and bounds, an element more.
use Rattle.std.proofs.Common.{◌≡◌, ◌≤◌, ◌<◌, ℕ, ◌+◌, List, [], ◌∷◌, ◌++◌, length, map, take, get_or, sym, ap, ◌∙◌, subst, arith}
use Rattle.std.specs.Prelude.{Some, option_map, slice_get}
use Rattle.std.proofs.lemmas.List.{length-map, take_all, take_more}
use Rattle.std.proofs.lemmas.Option.{get_or_from_slice_get, slice_get-get_or, slice_get-map}
use Rattle.c_meaning.specs.CoreTrees.{CoreOf, all_parts, cores_of, parts}
use Rattle.c_runs.specs.Counts.{sum}
use Rattle.lowering_limits.specs.Limits.{AreAtMost, IsFirstAbove}

one_taken : {A : Type 0} (xs : List A) (i : ℕ) (x : A) → i < length xs → x ≡ get_or xs i x → take (i + 1) xs ≡ take i xs ++ x ∷ []
one_taken xs i x h e = take_more xs i x h ∙ ap (λ y. take i xs ++ y ∷ []) (sym e)

-- ---- sums

sum_behind : {A : Type 0} (f : A → ℕ) (ys : List A) (x : A) → sum (map f (ys ++ x ∷ [])) ≡ sum (map f ys) + f x
sum_behind f [] x = omega arith
sum_behind f (y ∷ ys) x = let h = sum_behind f ys x in omega (arith, h)

-- what is summed up to an element, and that
pub one_more : {A : Type 0} (f : A → ℕ) (xs : List A) (i : ℕ) (x : A) → i < length xs → x ≡ get_or xs i x → sum (map f (take (i + 1) xs)) ≡ sum (map f (take i xs)) + f x
one_more f xs i x h e = ap (λ ys. sum (map f ys)) (one_taken xs i x h e) ∙ sum_behind f (take i xs) x

parts_behind : (ys : List (CoreOf ℕ)) (x : CoreOf ℕ) → all_parts (cores_of (ys ++ x ∷ [])) ≡ all_parts (cores_of ys) + parts x
parts_behind [] x = omega arith
parts_behind (y ∷ ys) x = let h = parts_behind ys x in omega (arith, h)

pub one_part_more : (xs : List (CoreOf ℕ)) (i : ℕ) (x : CoreOf ℕ) → i < length xs → x ≡ get_or xs i x → all_parts (cores_of (take (i + 1) xs)) ≡ all_parts (cores_of (take i xs)) + parts x
one_part_more xs i x h e = ap (λ ys. all_parts (cores_of ys)) (one_taken xs i x h e) ∙ parts_behind (take i xs) x

-- ---- bounds

below_behind : (limit : ℕ) (ys : List ℕ) (n : ℕ) → AreAtMost limit ys → n ≤ limit → AreAtMost limit (ys ++ n ∷ [])
below_behind limit [] n h l = (l, tt)
below_behind limit (y ∷ ys) n h l = (h.0, below_behind limit ys n h.1 l)

module _ {A B : Type 0} (f : B → ℕ) (h : A → B) (limit : ℕ) (xs : List A) where
  abbrev counts : List ℕ
  counts = map f (map h xs)

  long : length counts ≡ length xs
  long = length-map (map h xs) f ∙ length-map xs h

  module _ (i : ℕ) (x : A) (inside : i < length xs) (e : x ≡ get_or xs i x) where
    at : slice_get counts i ≡ Some (f (h x))
    at = slice_get-map f (map h xs) i ∙ ap (option_map f) (slice_get-map h xs i ∙ ap (option_map h) (slice_get-get_or xs i x inside ∙ ap Some (sym e)))

    one_more_below : AreAtMost limit (take i counts) → f (h x) ≤ limit → AreAtMost limit (take (i + 1) counts)
    one_more_below b l = subst (AreAtMost limit) (sym (one_taken counts i (f (h x)) (omega (arith, long, inside)) (sym (get_or_from_slice_get counts i (f (h x)) (f (h x)) at)))) (below_behind limit (take i counts) (f (h x)) b l)

    first_above : AreAtMost limit (take i counts) → limit < f (h x) → IsFirstAbove limit counts i (f (h x))
    first_above b l = record { is = at; above = l; before = b }

    pub one_more_is : (n : ℕ) → n ≡ f (h x) → AreAtMost limit (take i counts) → n ≤ limit → AreAtMost limit (take (i + 1) counts)
    one_more_is n z b l = one_more_below b (omega (arith, z, l))

    pub first_is : (n place : ℕ) → place ≡ i → n ≡ f (h x) → AreAtMost limit (take i counts) → limit < n → IsFirstAbove limit counts place n
    first_is n place p z b l = subst (λ k. IsFirstAbove limit counts k n) (sym p) (subst (IsFirstAbove limit counts i) (sym z) (first_above b (omega (arith, z, l))))

  pub all_below : (i : ℕ) → length xs ≤ i → AreAtMost limit (take i counts) → AreAtMost limit counts
  all_below i past b = subst (AreAtMost limit) (take_all i counts (omega (arith, long, past))) b
