-- Derivations of a tree: a rule whose range, if it has one, contains the tree's constant, and whose pattern fits, and a
-- derivation for each nonterminal of the pattern at the subtree that it meets.
-- Source: A. V. Aho, M. Ganapathi and S. W. K. Tjiang, Code generation using tree matching and dynamic programming,
-- 1989; Fraser and Hanson, A Retargetable C Compiler, chapter 14.
use Rattle.std.specs.Prelude.{◌≡◌, ℕ, ◌+◌, ◌-◌, Option, Some, None, List, [], ◌∷◌, ◌++◌, slice_get}
use Rattle.lburg_model.specs.declared.rule.Rule.{Rule}
use Rattle.lburg_model.specs.Tree.{MTree, value_of}
use Rattle.lburg_model.specs.Range.{IsMet}
use Rattle.lburg_model.specs.Pattern.{Goal, pattern_of, goals_at}

-- a rule's number, from 1, and the derivations of its pattern's nonterminals from left to right
mutual
  pub data MDerivation : Type 0 where
    Apply : (number : ℕ) (parts : MParts) → MDerivation

  pub data MParts : Type 0 where
    NoPart : MParts
    Part : (first : MDerivation) (others : MParts) → MParts

-- the derivation derives the nonterminal at the tree
abbrev mutual
  pub Derives : List Rule → ℕ → MTree → MDerivation → Type 0
  Derives rules n t (Apply number parts) =
      (i : ℕ) × (r : Rule) × (goals : List Goal) × (number ≡ i + 1) × (slice_get rules i ≡ Some r) × (r.left ≡ n) × IsMet r.range (value_of t) × (goals_at (pattern_of r.pattern) t ≡ Some goals) × DeriveEach rules goals parts

  pub DeriveEach : List Rule → List Goal → MParts → Type 0
  DeriveEach rules [] NoPart = Unit {0}
  DeriveEach rules [] (Part x xs) = ⊥
  DeriveEach rules (g ∷ gs) NoPart = ⊥
  DeriveEach rules (g ∷ gs) (Part x xs) = Derives rules g.0 g.1 x × DeriveEach rules gs xs

abbrev pub cost_of : Option Rule → ℕ
cost_of None = 0
cost_of (Some r) = r.cost

-- the costs of the rules, added up without a bound
abbrev mutual
  pub cost : List Rule → MDerivation → ℕ
  cost rules (Apply number parts) = cost_of (slice_get rules (number - 1)) + costs rules parts

  pub costs : List Rule → MParts → ℕ
  costs rules NoPart = 0
  costs rules (Part x xs) = cost rules x + costs rules xs

-- how many rules are applied
abbrev mutual
  pub count : MDerivation → ℕ
  count (Apply number parts) = 1 + counts parts

  pub counts : MParts → ℕ
  counts NoPart = 0
  counts (Part x xs) = count x + counts xs

-- the rules' numbers in preorder
abbrev mutual
  pub numbers : MDerivation → List ℕ
  numbers (Apply number parts) = number ∷ numbers_in parts

  pub numbers_in : MParts → List ℕ
  numbers_in NoPart = []
  numbers_in (Part x xs) = numbers x ++ numbers_in xs

-- the nonterminals that the pattern of a rule leaves, with their subtrees, none where it doesn't fit
abbrev pub goals_of_rule : Option Rule → MTree → Option (List Goal)
goals_of_rule None t = None
goals_of_rule (Some r) t = goals_at (pattern_of r.pattern) t

abbrev pub goals_in : Option (List Goal) → List Goal
goals_in None = []
goals_in (Some goals) = goals

-- the rules' numbers in preorder, each with the subtree at which it is applied
abbrev mutual
  pub applied : List Rule → MTree → MDerivation → List (ℕ × MTree)
  applied rules t (Apply number parts) = (number, t) ∷ applied_in rules (goals_in (goals_of_rule (slice_get rules (number - 1)) t)) parts

  pub applied_in : List Rule → List Goal → MParts → List (ℕ × MTree)
  applied_in rules goals NoPart = []
  applied_in rules [] (Part x xs) = []
  applied_in rules (g ∷ gs) (Part x xs) = applied rules g.1 x ++ applied_in rules gs xs
