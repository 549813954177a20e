-- The first end of a comment.
use Rattle.std.proofs.Common.{◌≡◌, ◌<◌, ℕ, zero, suc, true, false, Some, None, List, [], ◌∷◌, length, drop, refl, ap, arith, add-one}
use Rattle.c_lexer.specs.Comments.{closes, before_close}

abbrev NoneBefore : List ℕ → ℕ → Type 0
NoneBefore bytes n = (k : ℕ) → k < n → closes (drop k bytes) ≡ false

pub first_close : (bytes : List ℕ) (n : ℕ) → NoneBefore bytes n → closes (drop n bytes) ≡ true → before_close bytes ≡ Some n
first_close [] zero h c = absurd cc
first_close [] (suc n) h c = absurd cc
first_close (b ∷ bs) zero h c = rw c refl
first_close (b ∷ bs) (suc n) h c =
    let f : closes (b ∷ bs) ≡ false = h 0 (omega arith) in
    let r : before_close bs ≡ Some n = first_close bs n (λ k l. h (suc k) (omega arith)) c in
    rw (f, r) (ap (λ (m : ℕ). Some m) (add-one n))

pub no_close : (bytes : List ℕ) → NoneBefore bytes (length bytes) → before_close bytes ≡ None
no_close [] h = refl
no_close (b ∷ bs) h =
    let f : closes (b ∷ bs) ≡ false = h 0 (omega arith) in
    let r : before_close bs ≡ None = no_close bs (λ k l. h (suc k) (omega arith)) in
    rw (f, r) refl
