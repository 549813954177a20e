-- Which leaves of a pattern have a rule or are terminals.
use Rattle.std.specs.Prelude.{◌≡◌, ◌⊎◌, ◌<◌, ℕ, Option, Some, None, List, map, slice_get}
use Rattle.lburg_lines.specs.NamedTree.{MNamed, Alone, Over, Both}
use Rattle.lburg_lines.specs.Grammar.{MRule}
use Rattle.lburg_faults.specs.Terminals.{Among}

-- the left sides of rules
abbrev pub lefts_of : List MRule → List (List ℕ)
lefts_of rules = map (λ r. r.left) rules

-- the name is a terminal or a left side
abbrev pub IsNamed : List (List ℕ) → List (List ℕ) → List ℕ → Type 0
IsNamed terminals lefts name = Among name terminals ⊎ Among name lefts

-- each leaf of the tree is a terminal or a left side
abbrev pub AreLeavesNamed : List (List ℕ) → List (List ℕ) → MNamed → Type 0
AreLeavesNamed terminals lefts (Alone n) = IsNamed terminals lefts n
AreLeavesNamed terminals lefts (Over n a) = AreLeavesNamed terminals lefts a
AreLeavesNamed terminals lefts (Both n a b) = AreLeavesNamed terminals lefts a × AreLeavesNamed terminals lefts b

-- some leaf of the tree is neither
abbrev pub IsLeafUnnamed : List (List ℕ) → List (List ℕ) → MNamed → Type 0
IsLeafUnnamed terminals lefts (Alone n) = IsNamed terminals lefts n → ⊥
IsLeafUnnamed terminals lefts (Over n a) = IsLeafUnnamed terminals lefts a
IsLeafUnnamed terminals lefts (Both n a b) = IsLeafUnnamed terminals lefts a ⊎ IsLeafUnnamed terminals lefts b

-- the first rule with such a leaf
pub record IsFirstUnnamed (terminals lefts : List (List ℕ)) (rules : List MRule) (i : ℕ) : Type 0 where
  pub rule : MRule
  pub there : slice_get rules i ≡ Some rule
  pub unnamed : IsLeafUnnamed terminals lefts rule.tree
  pub before : (j : ℕ) (r : MRule) → j < i → slice_get rules j ≡ Some r → AreLeavesNamed terminals lefts r.tree

-- no rule has one
abbrev pub AreAllNamed : List (List ℕ) → List (List ℕ) → List MRule → Type 0
AreAllNamed terminals lefts rules = (j : ℕ) (r : MRule) → slice_get rules j ≡ Some r → AreLeavesNamed terminals lefts r.tree

abbrev pub FindsUnnamed : List (List ℕ) → List (List ℕ) → List MRule → Option ℕ → Type 0
FindsUnnamed terminals lefts rules (Some i) = IsFirstUnnamed terminals lefts rules i
FindsUnnamed terminals lefts rules None = AreAllNamed terminals lefts rules
