-- What `lburg cover` prints: a line for each tree, numbered from 1, with the cost of its best derivation and the
-- derivation's rule numbers in preorder, or that it has none. Numbers are decimal; each line ends with a line feed.
use Rattle.std.specs.Prelude.{◌≡◌, ◌⊎◌, ℕ, ◌+◌, List, [], ◌∷◌, ◌++◌, codes, decimal}
use Rattle.lburg_model.specs.Tree.{MTree}
use Rattle.lburg_model.specs.Description.{MDescription}
use Rattle.lburg_model.specs.Derivation.{MDerivation, cost, numbers}
use Rattle.lburg_model.specs.Best.{IsBest, HasNone}

-- each number behind a blank
abbrev pub spaced : List ℕ → List ℕ
spaced [] = []
spaced (n ∷ ns) = codes " " ++ decimal n ++ spaced ns

abbrev pub cost_line : ℕ → ℕ → List ℕ → List ℕ
cost_line k cost numbers = decimal k ++ codes ": cost " ++ decimal cost ++ codes ":" ++ spaced numbers ++ codes "\n"

abbrev pub no_cover_line : ℕ → List ℕ
no_cover_line k = decimal k ++ codes ": no cover\n"

-- the line of tree k, and how many of the trees, 0 or 1, have no derivation
abbrev pub IsCoverLine : MDescription → ℕ → MTree → List ℕ → ℕ → Type 0
IsCoverLine d k t line uncovered =
    ((x : MDerivation) × IsBest d t x × (line ≡ cost_line k (cost d.rules x) (numbers x)) × (uncovered ≡ 0))
    ⊎ (HasNone d t × (line ≡ no_cover_line k) × (uncovered ≡ 1))

-- the lines of trees, of which the first has the number k, and how many of these have no derivation
abbrev pub AreCoverLines : MDescription → ℕ → List MTree → List ℕ → ℕ → Type 0
AreCoverLines d k [] text uncovered = (text ≡ []) × (uncovered ≡ 0)
AreCoverLines d k (t ∷ ts) text uncovered =
    (line rest : List ℕ) × (here others : ℕ) × IsCoverLine d k t line here × AreCoverLines d (k + 1) ts rest others × (text ≡ line ++ rest) × (uncovered ≡ here + others)

abbrev pub IsCoverText : MDescription → List MTree → List ℕ → ℕ → Type 0
IsCoverText d trees text uncovered = AreCoverLines d 1 trees text uncovered
