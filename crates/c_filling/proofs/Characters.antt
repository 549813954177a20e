-- The bytes of arrays that strings fill.
use Rattle.std.proofs.Common.{◌≡◌, ℕ, zero, suc, ◌-◌, List, [], ◌∷◌, ◌++◌, length, take, replicate, refl, ap, ◌∙◌, arith}
use Rattle.c_meaning.specs.Filling.{characters}

no_characters : (n : ℕ) → replicate n 0 ≡ characters n []
no_characters zero = refl
no_characters (suc n) = ap (λ bs. 0 ∷ bs) (no_characters n)

characters_are : (n : ℕ) (bytes : List ℕ) → take n bytes ++ replicate (n - length bytes) 0 ≡ characters n bytes
characters_are zero [] = refl
characters_are zero (b ∷ bytes) = (let e : 0 - suc (length bytes) ≡ 0 = omega arith in rw e refl)
characters_are (suc n) [] = (let e : suc n - 0 ≡ suc n = omega arith in rw e (no_characters (suc n)))
characters_are (suc n) (b ∷ bytes) = (let e : suc n - suc (length bytes) ≡ n - length bytes = omega arith in rw e (ap (λ bs. b ∷ bs) (characters_are n bytes)))

-- some bytes cut, or filled up with zeros
pub resized : (n len : ℕ) (bytes some all : List ℕ) → some ≡ bytes → len ≡ length some → all ≡ take n some ++ replicate (n - len) 0 → all ≡ characters n bytes
resized n len bytes some all e l h =
    h ∙ ap (λ m. take n some ++ replicate (n - m) 0) l ∙ ap (λ bs. take n bs ++ replicate (n - length bs) 0) e ∙ characters_are n bytes
