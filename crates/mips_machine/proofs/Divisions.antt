-- Quotients and remainders of the signed numbers of two words, as the code has them: between words and signed numbers
-- nothing is lost.
use Rattle.std.proofs.Common.{◌≡◌, ℕ, zero, suc, ◌/◌, ◌^◌, ◌<◌, ℤ, pos, negsuc, w32, to_z, of_z, ap, ◌∙◌, arith, lit<}
use Rattle.std.proofs.Math.Nat.{div-le_self}
use Rattle.std.proofs.lemmas.Int.{of_z-to_z, to_z-of_z}
use lib.IntN.{neg_ℤ}
use lib.Signed.{mag, quot_z, rem_z, mag_rem}

-- the word of a number whose magnitude is small
word-below : (z : ℤ) → mag z < 2 ^ 32 → of_z w32 z < 2 ^ 32
word-below (pos n) h = h
word-below (negsuc n) h = omega arith

negative-below : (n : ℕ) → of_z w32 (neg_ℤ (pos n)) < 2 ^ 32
negative-below zero = lit< tt
negative-below (suc n) = omega arith

quotient-below : (a b : ℤ) → mag a < 2 ^ 31 → of_z w32 (quot_z a b) < 2 ^ 32
quotient-below (pos a) (pos b) h = omega (arith, div-le_self a b)
quotient-below (pos a) (negsuc b) h = negative-below (a / suc b)
quotient-below (negsuc a) (pos b) h = negative-below (suc a / b)
quotient-below (negsuc a) (negsuc b) h = omega (arith, div-le_self (suc a) (suc b))

remainder-below : (a b : ℤ) → mag a < 2 ^ 31 → of_z w32 (rem_z a b) < 2 ^ 32
remainder-below a b h = word-below (rem_z a b) (omega (arith, mag_rem a b))

-- a number through its word
through : (a : ℤ) → mag a < 2 ^ 31 → to_z w32 (of_z w32 a) ≡ a
through a h = to_z-of_z w32 a (record { sfits = h })

-- what the code makes of the numbers of two words by an operation
made : (f : ℤ → ℤ → ℤ) (x y r : ℕ) (a b : ℤ) → a ≡ to_z w32 x → b ≡ to_z w32 y → mag a < 2 ^ 31 → mag b < 2 ^ 31 → of_z w32 (f a b) < 2 ^ 32 → r ≡ of_z w32 (to_z w32 (of_z w32 (f (to_z w32 (of_z w32 a)) (to_z w32 (of_z w32 b))))) → r ≡ of_z w32 (f (to_z w32 x) (to_z w32 y))
made f x y r a b ea eb ha hb below e =
    e
    ∙ ap (λ (z : ℤ). of_z w32 (to_z w32 (of_z w32 (f z (to_z w32 (of_z w32 b)))))) (through a ha)
    ∙ ap (λ (z : ℤ). of_z w32 (to_z w32 (of_z w32 (f a z)))) (through b hb)
    ∙ of_z-to_z w32 (of_z w32 (f a b)) below
    ∙ ap (λ (z : ℤ). of_z w32 (f z b)) ea
    ∙ ap (λ (z : ℤ). of_z w32 (f (to_z w32 x) z)) eb

pub quotient-word : (x y r : ℕ) (a b : ℤ) → a ≡ to_z w32 x → b ≡ to_z w32 y → mag a < 2 ^ 31 → mag b < 2 ^ 31 → r ≡ of_z w32 (to_z w32 (of_z w32 (quot_z (to_z w32 (of_z w32 a)) (to_z w32 (of_z w32 b))))) → r ≡ of_z w32 (quot_z (to_z w32 x) (to_z w32 y))
quotient-word x y r a b ea eb ha hb e = made quot_z x y r a b ea eb ha hb (quotient-below a b ha) e

pub remainder-word : (x y r : ℕ) (a b : ℤ) → a ≡ to_z w32 x → b ≡ to_z w32 y → mag a < 2 ^ 31 → mag b < 2 ^ 31 → r ≡ of_z w32 (to_z w32 (of_z w32 (rem_z (to_z w32 (of_z w32 a)) (to_z w32 (of_z w32 b))))) → r ≡ of_z w32 (rem_z (to_z w32 x) (to_z w32 y))
remainder-word x y r a b ea eb ha hb e = made rem_z x y r a b ea eb ha hb (remainder-below a b ha) e
