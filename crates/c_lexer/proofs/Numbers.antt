-- The number that digits write.
use Rattle.std.proofs.Common.{◌≡◌, ◌<◌, ◌≤◌, ◌+◌, ◌*◌, ℕ, zero, suc, Some, None, List, [], ◌∷◌, length, get_or, drop, refl, arith, add-one}
use Rattle.std.proofs.lemmas.Bool.Decides.{nat_tests}
use Rattle.c_lexer.specs.Numbers.{digit_value, value_behind, in_word}

step_suc : (base v : ℕ) (ds : List ℕ) (n : ℕ) → n < length ds → value_behind base v (drop n ds) ≡ value_behind base (base * v + digit_value (get_or ds n 0)) (drop (suc n) ds)
step_suc base v [] n h = absurd (omega arith)
step_suc base v (d ∷ ds) zero h = refl
step_suc base v (d ∷ ds) (suc n) h = step_suc base v ds n (omega arith)

-- one more digit
pub value_step : (base v w k : ℕ) (ds : List ℕ) (n : ℕ) → n < length ds → k ≡ digit_value (get_or ds n 0) → w ≡ base * v + k → value_behind base v (drop n ds) ≡ value_behind base w (drop (n + 1) ds)
value_step base v w k ds n h e f = rw (add-one, f, e) (step_suc base v ds n h)

pub product_bound : (base v : ℕ) → base ≤ 16 → v ≤ 4294967295 → base * v ≤ 68719476720
product_bound base v h k = grind arith

grows : (base v d : ℕ) → 1 ≤ base → v ≤ base * v + d
grows base v d h = grind arith

-- more digits make no smaller number
pub no_smaller : (base v : ℕ) (ds : List ℕ) → 1 ≤ base → v ≤ value_behind base v ds
no_smaller base v [] h = omega arith
no_smaller base v (d ∷ ds) h = let e = grows base v (digit_value d) h in let f = no_smaller base (base * v + digit_value d) ds h in omega arith

pub word_none : (n : ℕ) → 4294967295 < n → None ≡ in_word n
word_none n h = grind (arith, nat_tests)

pub word_some : (n : ℕ) → n ≤ 4294967295 → Some n ≡ in_word n
word_some n h = grind (arith, nat_tests)

-- where the digits so far pass the word, so do all
pub past_word : (base v k : ℕ) (ds : List ℕ) (n : ℕ) → 1 ≤ base → n < length ds → value_behind base 0 ds ≡ value_behind base v (drop n ds) → k ≡ digit_value (get_or ds n 0) → 4294967295 < base * v + k → None ≡ in_word (value_behind base 0 ds)
past_word base v k ds n l h s e b =
    let f = value_step base v (base * v + k) k ds n h e refl in
    let g = no_smaller base (base * v + k) (drop (n + 1) ds) l in
    word_none (value_behind base 0 ds) (omega (arith, s, f))
