-- The places of words in the order of their type.
use Rattle.std.proofs.Common.{◌≡◌, ℕ, suc, ◌+◌, ◌-◌, ◌%◌, ◌^◌, ◌<◌, ◌≤◌, Bool, true, false, nat_lt, pos, negsuc, refl, sym, ap, ◌∙◌, arith}
use Rattle.std.proofs.lemmas.Bool.{ltb-true, ltb-false, lt-ltb, le-ltb}
use Rattle.std.specs.Prelude.{int_lt, if◌then◌else◌}
use Rattle.objects.specs.Arithmetic.{is_less, signed_of}
use Rattle.switch_tables.specs.Order.{rank}
use Rattle.switch_tables.specs.Cuts.{offset}

pub rank_below : (signed : Bool) (n : ℕ) → n < 2 ^ 32 → rank signed n < 2 ^ 32
rank_below true n h = omega arith
rank_below false n h = h

-- words at one place are one
pub rank_apart : (signed : Bool) (m n : ℕ) → m < 2 ^ 32 → n < 2 ^ 32 → rank signed m ≡ rank signed n → m ≡ n
rank_apart true m n p q e = omega arith
rank_apart false m n p q e = e

same_test : (a b c d : ℕ) → (a < b → c < d) → (b ≤ a → d ≤ c) → nat_lt a b ≡ nat_lt c d
same_test a b c d f g = by (nat_lt a b) refl
  where
    by : (q : Bool) → nat_lt a b ≡ q → nat_lt a b ≡ nat_lt c d
    by true e = e ∙ sym (lt-ltb c d (f (ltb-true a b e)))
    by false e = e ∙ sym (le-ltb c d (g (ltb-false a b e)))

-- a word's signed number, by its upper bit
low_word : (n : ℕ) → nat_lt n (2 ^ 31) ≡ true → signed_of n ≡ pos n
low_word n e = ap (λ q. if q then pos n else negsuc (2 ^ 32 - suc n)) e

high_word : (n : ℕ) → nat_lt n (2 ^ 31) ≡ false → signed_of n ≡ negsuc (2 ^ 32 - suc n)
high_word n e = ap (λ q. if q then pos n else negsuc (2 ^ 32 - suc n)) e

signed_test : (m n : ℕ) → m < 2 ^ 32 → n < 2 ^ 32 → int_lt (signed_of m) (signed_of n) ≡ nat_lt (rank true m) (rank true n)
signed_test m n p q = by (nat_lt m (2 ^ 31)) (nat_lt n (2 ^ 31)) refl refl
  where
    by : (a b : Bool) → nat_lt m (2 ^ 31) ≡ a → nat_lt n (2 ^ 31) ≡ b → int_lt (signed_of m) (signed_of n) ≡ nat_lt (rank true m) (rank true n)
    by true true e f =
        let x = ltb-true m (2 ^ 31) e in
        let y = ltb-true n (2 ^ 31) f in
        ap (λ z. int_lt z (signed_of n)) (low_word m e) ∙ ap (λ z. int_lt (pos m) z) (low_word n f)
        ∙ same_test m n (rank true m) (rank true n) (λ h. omega arith) (λ h. omega arith)
    by true false e f =
        let x = ltb-true m (2 ^ 31) e in
        let y = ltb-false n (2 ^ 31) f in
        ap (λ z. int_lt z (signed_of n)) (low_word m e) ∙ ap (λ z. int_lt (pos m) z) (high_word n f)
        ∙ sym (le-ltb (rank true m) (rank true n) (omega arith))
    by false true e f =
        let x = ltb-false m (2 ^ 31) e in
        let y = ltb-true n (2 ^ 31) f in
        ap (λ z. int_lt z (signed_of n)) (high_word m e) ∙ ap (λ z. int_lt (negsuc (2 ^ 32 - suc m)) z) (low_word n f)
        ∙ sym (lt-ltb (rank true m) (rank true n) (omega arith))
    by false false e f =
        let x = ltb-false m (2 ^ 31) e in
        let y = ltb-false n (2 ^ 31) f in
        ap (λ z. int_lt z (signed_of n)) (high_word m e) ∙ ap (λ z. int_lt (negsuc (2 ^ 32 - suc m)) z) (high_word n f)
        ∙ same_test (2 ^ 32 - suc n) (2 ^ 32 - suc m) (rank true m) (rank true n) (λ h. omega arith) (λ h. omega arith)

pub less_by_rank : (signed : Bool) (m n : ℕ) → m < 2 ^ 32 → n < 2 ^ 32 → is_less signed m n ≡ nat_lt (rank signed m) (rank signed n)
less_by_rank true m n p q = signed_test m n p q
less_by_rank false m n p q = refl

-- how far a word lies behind one that isn't above it
pub offset_by_rank : (signed : Bool) (low n : ℕ) → low < 2 ^ 32 → n < 2 ^ 32 → rank signed low ≤ rank signed n → rank signed low + offset low n ≡ rank signed n
offset_by_rank true low n p q h = omega arith
offset_by_rank false low n p q h = omega arith

-- and moved on so far it is that word
pub moved_by_offset : (low n : ℕ) → low < 2 ^ 32 → n < 2 ^ 32 → (low + offset low n) % 2 ^ 32 ≡ n
moved_by_offset low n p q = omega arith

pub offset_below : (low n : ℕ) → offset low n < 2 ^ 32
offset_below low n = omega arith

pub offset_of_moved : (low i : ℕ) → low < 2 ^ 32 → i < 2 ^ 32 → offset low ((low + i) % 2 ^ 32) ≡ i
offset_of_moved low i p q = omega arith
