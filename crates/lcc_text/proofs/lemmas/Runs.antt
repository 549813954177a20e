-- Runs of bytes of a class at the front of a text.
use Rattle.std.proofs.Common.{◌≡◌, ◌≤◌, ◌<◌, ◌+◌, ℕ, suc, zero, Bool, true, false, List, [], ◌∷◌, ◌++◌, length, get_or, take, drop, refl, sym, ap, ◌∙◌, arith, add-one}
use Rattle.lcc_text.specs.Classes.{AllIn, StartsIn, StopsIn}

run_suc : (c : ℕ → Bool) (bytes : List ℕ) (n : ℕ) → AllIn c (take n bytes) → n < length bytes → c (get_or bytes n 0) ≡ true → AllIn c (take (suc n) bytes)
run_suc c [] n p h e = absurd (omega arith)
run_suc c (b ∷ bs) zero p h e = (e, tt)
run_suc c (b ∷ bs) (suc n) p h e = (p.0, run_suc c bs n p.1 (omega arith) e)

-- one more byte of the class
pub run_more : (c : ℕ → Bool) (bytes : List ℕ) (n : ℕ) → AllIn c (take n bytes) → n < length bytes → c (get_or bytes n 0) ≡ true → AllIn c (take (n + 1) bytes)
run_more c bytes n p h e = rw add-one (run_suc c bytes n p h e)

-- where the next byte isn't of the class, or there is none
pub run_stops : (c : ℕ → Bool) (bytes : List ℕ) (n : ℕ) → (n < length bytes → c (get_or bytes n 0) ≡ false) → StopsIn c (drop n bytes)
run_stops c [] zero h = tt
run_stops c [] (suc n) h = tt
run_stops c (b ∷ bs) zero h = h (omega arith)
run_stops c (b ∷ bs) (suc n) h = run_stops c bs n (λ k. h (omega arith))

-- no run is longer than one behind which the class stops
pub longest_run : (c : ℕ → Bool) (n m rest z : List ℕ) → AllIn c m → StopsIn c rest → n ++ rest ≡ m ++ z → length m ≤ length n
longest_run c [] [] rest z p q e = omega arith
longest_run c [] (b ∷ m) [] z p q e = absurd cc
longest_run c [] (b ∷ m) (a ∷ rest) z p q e = let f : a ≡ b = cc in let g : true ≡ false = sym p.0 ∙ ap c (sym f) ∙ q in absurd cc
longest_run c (a ∷ n) [] rest z p q e = omega arith
longest_run c (a ∷ n) (b ∷ m) rest z p q e = let h = longest_run c n m rest z p.1 q cc in omega arith

-- a run has one length
pub run_exact : (c : ℕ → Bool) (m z : List ℕ) (n : ℕ) → AllIn c m → StopsIn c z → AllIn c (take n (m ++ z)) → StopsIn c (drop n (m ++ z)) → n ≤ length (m ++ z) → n ≡ length m
run_exact c [] [] n p q f s h = omega arith
run_exact c [] (b ∷ z) zero p q f s h = refl
run_exact c [] (b ∷ z) (suc n) p q f s h = let g : true ≡ false = sym f.0 ∙ q in absurd cc
run_exact c (b ∷ m) z zero p q f s h = let g : true ≡ false = sym p.0 ∙ s in absurd cc
run_exact c (b ∷ m) z (suc n) p q f s h = let e = run_exact c m z n p.1 q f.1 s (omega arith) in omega arith

-- a run that starts isn't empty
pub run_pos : (c : ℕ → Bool) (bytes : List ℕ) (n : ℕ) → StartsIn c bytes → StopsIn c (drop n bytes) → 1 ≤ n
run_pos c [] n h s = absurd h
run_pos c (b ∷ bs) zero h s = let g : true ≡ false = sym h ∙ s in absurd cc
run_pos c (b ∷ bs) (suc n) h s = omega arith

-- where a run isn't empty, it starts as the text does
pub starts_take : (c : ℕ → Bool) (bytes : List ℕ) (n : ℕ) → StartsIn c bytes → 1 ≤ n → StartsIn c (take n bytes)
starts_take c [] n h k = absurd h
starts_take c (b ∷ bs) zero h k = absurd (omega arith)
starts_take c (b ∷ bs) (suc n) h k = h
