-- Numbers that follow one another: what is among them, and that each is there once.
use Rattle.std.proofs.Common.{◌≡◌, ℕ, zero, suc, ◌+◌, ◌<◌, ◌≤◌, Bool, true, false, not, ◌||◌, List, [], ◌∷◌, ◌++◌, refl, sym, ap, ◌∙◌, arith, add-zero, zero-add}
use Rattle.std.specs.Prelude.{◌==◌}
use Rattle.std.specs.List.{range_with_len}
use Rattle.std.proofs.lemmas.Bool.Decides.{nat_tests}
use Rattle.c_types.specs.Table.{AreBelow}
use Rattle.c_meaning.specs.Units.{are_apart, is_among}
use Rattle.c_fits.proofs.lemmas.Booleans.{and_left, and_right, not_true, or_false, or_left, or_right}

pub ranges_join : (a m n : ℕ) → range_with_len a m ++ range_with_len (a + m) n ≡ range_with_len a (m + n)
ranges_join a zero n = ap (λ k. range_with_len k n) (add-zero a) ∙ ap (range_with_len a) (sym (zero-add n))
ranges_join a (suc m) n =
    let e : a + suc m ≡ (a + 1) + m = omega arith in
    let g : suc (m + n) ≡ suc m + n = omega arith in
    ap (λ k. a ∷ (range_with_len (a + 1) m ++ range_with_len k n)) e ∙ ap (λ xs. a ∷ xs) (ranges_join (a + 1) m n) ∙ ap (range_with_len a) g

pub same_number : (n : ℕ) → (n == n) ≡ true
same_number n = grind (arith, nat_tests)

pub among_range : (a n m : ℕ) → a ≤ m → m < a + n → is_among m (range_with_len a n) ≡ true
among_range a zero m l k = absurd (omega (arith, l, k))
among_range a (suc n) m l k = by (m == a) refl (λ e. among_range (a + 1) n m (grind (arith, nat_tests, l, e)) (omega (arith, k)))
  where
    by : (b : Bool) → (m == a) ≡ b → ((m == a) ≡ false → is_among m (range_with_len (a + 1) n) ≡ true) → ((m == a) || is_among m (range_with_len (a + 1) n)) ≡ true
    by true e g = rw e
    by false e g = rw (e, g e)

below_none : (a n m : ℕ) → m < a → is_among m (range_with_len a n) ≡ false
below_none a zero m l = refl
below_none a (suc n) m l = let e : (m == a) ≡ false = grind (arith, nat_tests, l) in rw (e, below_none (a + 1) n m (omega (arith, l)))

pub range_apart : (a n : ℕ) → are_apart (range_with_len a n) ≡ true
range_apart a zero = refl
range_apart a (suc n) = rw (below_none (a + 1) n a (omega arith), range_apart (a + 1) n)

pub range_below : (a n top : ℕ) → a + n ≤ top → AreBelow top (range_with_len a n)
range_below a zero top l = tt
range_below a (suc n) top l = (omega (arith, l), range_below (a + 1) n top (omega (arith, l)))

-- ---- numbers of a list that are apart

not_among : (ks : List ℕ) (n m : ℕ) → is_among m ks ≡ false → (n == m) ≡ false → is_among m (ks ++ n ∷ []) ≡ false
not_among [] n m g d = let f : (m == n) ≡ false = grind (arith, nat_tests, d) in rw f
not_among (k ∷ ks) n m g d = or_false (m == k) (is_among m (ks ++ n ∷ [])) (or_left (m == k) (is_among m ks) g) (not_among ks n m (or_right (m == k) (is_among m ks) g) d)

pub apart_push : (ns : List ℕ) (n : ℕ) → are_apart ns ≡ true → is_among n ns ≡ false → are_apart (ns ++ n ∷ []) ≡ true
apart_push [] n h e = refl
apart_push (m ∷ ns) n h e =
    let a = not_true (is_among m ns) (and_left (not (is_among m ns)) (are_apart ns) h) in
    let r = apart_push ns n (and_right (not (is_among m ns)) (are_apart ns) h) (or_right (n == m) (is_among n ns) e) in
    rw (not_among ns n m a (or_left (n == m) (is_among n ns) e)) r
