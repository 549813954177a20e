-- Runs, by how long they are.
use Rattle.std.proofs.Common.{◌≡◌, ◌≤◌, ℕ, zero, suc, Bool, List, [], ◌∷◌, length, take, drop, refl, ap, arith}
use Rattle.lcc_text.specs.Classes.{AllIn, StopsIn}
use Rattle.c_lexer.specs.Runs.{run, behind}

pub is_run : (c : ℕ → Bool) (bytes : List ℕ) (n : ℕ) → n ≤ length bytes → AllIn c (take n bytes) → StopsIn c (drop n bytes) → take n bytes ≡ run c bytes
is_run c [] zero h a s = refl
is_run c [] (suc n) h a s = refl
is_run c (b ∷ bs) zero h a s = rw s refl
is_run c (b ∷ bs) (suc n) h a s = rw a.0 (ap (λ (l : List ℕ). b ∷ l) (is_run c bs n (omega arith) a.1 s))

pub is_behind : (c : ℕ → Bool) (bytes : List ℕ) (n : ℕ) → n ≤ length bytes → AllIn c (take n bytes) → StopsIn c (drop n bytes) → drop n bytes ≡ behind c bytes
is_behind c [] zero h a s = refl
is_behind c [] (suc n) h a s = refl
is_behind c (b ∷ bs) zero h a s = rw s refl
is_behind c (b ∷ bs) (suc n) h a s = rw a.0 (is_behind c bs n (omega arith) a.1 s)
