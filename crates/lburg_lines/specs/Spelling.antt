-- What bytes spell: tokens, each the longest that stands there, with blanks anywhere between.
use Rattle.std.specs.Prelude.{◌≡◌, ◌≤◌, ◌⊎◌, false, ℕ, List, [], ◌∷◌, ◌++◌, length}
use Rattle.lcc_text.specs.declared.class.Class.TheVariants.{Blank}
use Rattle.lcc_text.specs.Classes.{AllIn, in_class}
use Rattle.lburg_lines.specs.Tokens.{Tok, Wrong, text_of, IsToken}

-- the longest token at the front, and rest behind it
pub record IsNext (bytes : List ℕ) (t : Tok) (rest : List ℕ) : Type 0 where
  pub token : IsToken t
  pub parts : bytes ≡ text_of t ++ rest
  pub longest : (u : Tok) (z : List ℕ) → IsToken u → bytes ≡ text_of u ++ z → length (text_of u) ≤ length (text_of t)

-- no token begins here
abbrev pub NoToken : List ℕ → Type 0
NoToken bytes = (u : Tok) (z : List ℕ) → IsToken u → bytes ≡ text_of u ++ z → ⊥

-- a byte that is no blank stands first
abbrev pub Starts : List ℕ → Type 0
Starts [] = ⊥
Starts (b ∷ bs) = in_class Blank b ≡ false

-- Behind blanks a token stands and then the others. Where none begins, Wrong is the last.
abbrev pub Spells : List Tok → List ℕ → Type 0
Spells [] bytes = AllIn (in_class Blank) bytes
Spells (t ∷ ts) bytes =
    (gap behind : List ℕ) × AllIn (in_class Blank) gap × Starts behind × (bytes ≡ gap ++ behind) × (((rest : List ℕ) × IsNext behind t rest × Spells ts rest) ⊎ ((t ≡ Wrong) × (ts ≡ []) × NoToken behind))

-- what stands behind the blanks
abbrev pub SkipsBlanks : List ℕ → List ℕ → Type 0
SkipsBlanks bytes behind = (gap : List ℕ) × AllIn (in_class Blank) gap × (bytes ≡ gap ++ behind)
