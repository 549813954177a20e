-- The first line of a text, up to the first line feed.
use Rattle.std.proofs.Common.{◌≡◌, ◌≢◌, ◌≤◌, ◌<◌, ℕ, zero, suc, true, false, ◌==◌, List, [], ◌∷◌, length, get_or, take, drop, refl, arith}
use Rattle.std.proofs.lemmas.Bool.Decides.{nat_tests}
use Rattle.lcc_text.specs.Lines.{lines_of}

no_feed : (b : ℕ) → b ≢ 10 → (b == 10) ≡ false
no_feed b h = grind (arith, nat_tests)

feed : (b : ℕ) → b ≡ 10 → (b == 10) ≡ true
feed b h = grind (arith, nat_tests)

at_feed : (b : ℕ) (bs rest : List ℕ) → b ≡ 10 → bs ≡ rest → lines_of (b ∷ bs) ≡ [] ∷ lines_of rest
at_feed b bs rest h e = rw (feed b h, e) refl

-- the line before a line feed
pub first_line : (bytes rest : List ℕ) (b n : ℕ) → ((k : ℕ) → k < n → get_or bytes k 0 ≢ 10) → (n < length bytes → get_or bytes n 0 ≡ 10) → drop n bytes ≡ b ∷ rest → lines_of bytes ≡ take n bytes ∷ lines_of rest
first_line [] rest b zero h k e = absurd cc
first_line [] rest b (suc n) h k e = absurd cc
first_line (a ∷ bs) rest b zero h k e = at_feed a bs rest (k (omega arith)) cc
first_line (a ∷ bs) rest b (suc n) h k e =
    let f = first_line bs rest b n (λ i l. h (suc i) (omega arith)) (λ l. k (omega arith)) e in
    rw (no_feed a (h 0 (omega arith)), f) refl

-- a line that the end of the text ends
pub last_line : (bytes : List ℕ) (n : ℕ) → ((k : ℕ) → k < n → get_or bytes k 0 ≢ 10) → n ≡ length bytes → 1 ≤ n → lines_of bytes ≡ take n bytes ∷ lines_of (drop n bytes)
last_line [] n h e k = absurd (omega arith)
last_line (a ∷ bs) zero h e k = absurd (omega arith)
last_line (a ∷ []) (suc zero) h e k = rw (no_feed a (h 0 (omega arith))) refl
last_line (a ∷ []) (suc (suc n)) h e k = absurd (omega arith)
last_line (a ∷ c ∷ bs) (suc n) h e k =
    let f = last_line (c ∷ bs) n (λ i l. h (suc i) (omega arith)) (omega arith) (omega arith) in
    rw (no_feed a (h 0 (omega arith)), f) refl
