-- Bytes as one number, the first byte the lowest.
use Rattle.std.specs.Prelude.{◌<◌, ℕ, ◌+◌, ◌*◌, List, [], ◌∷◌, ◌≡◌, ◌++◌, length}

abbrev pub AreBytes : List ℕ → Type 0
AreBytes [] = Unit {0}
AreBytes (b ∷ bs) = (b < 256) × AreBytes bs

abbrev pub word_of : List ℕ → ℕ
word_of [] = 0
word_of (b ∷ bs) = b + 256 * word_of bs

-- the number of the first eight bytes
pub record IsWord (bytes : List ℕ) (word : ℕ) : Type 0 where
  pub front : List ℕ
  pub rest : List ℕ
  pub parts : bytes ≡ front ++ rest
  pub many : length front ≡ 8
  pub are : AreBytes front
  pub word_is : word ≡ word_of front
