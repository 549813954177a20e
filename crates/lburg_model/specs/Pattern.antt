-- Patterns, and where they fit.
use Rattle.std.specs.Prelude.{ℕ, ◌+◌, ◌==◌, Option, Some, None, List, [], ◌∷◌, ◌++◌, if◌then◌else◌}
use Rattle.lburg_model.specs.declared.pattern.Pattern.{Pattern}
use Rattle.lburg_model.specs.declared.pattern.Pattern.{Nonterminal, Leaf, Unary', Binary'}
use Rattle.lburg_model.specs.Tree.{MTree, TLeaf, TOne, TTwo}

-- a tree of operators with nonterminals among its leaves
pub data MPattern : Type 0 where
  PHole : (n : ℕ) → MPattern
  PLeaf : (op : ℕ) → MPattern
  POne : (op : ℕ) (p : MPattern) → MPattern
  PTwo : (op : ℕ) (p q : MPattern) → MPattern

abbrev pub pattern_of : Pattern → MPattern
pattern_of (Nonterminal n) = PHole n
pattern_of (Leaf op) = PLeaf op
pattern_of (Unary' op x p) = POne op (pattern_of p)
pattern_of (Binary' op x p y q) = PTwo op (pattern_of p) (pattern_of q)

abbrev pub pattern_nodes : MPattern → ℕ
pattern_nodes (PHole n) = 1
pattern_nodes (PLeaf op) = 1
pattern_nodes (POne op p) = pattern_nodes p + 1
pattern_nodes (PTwo op p q) = pattern_nodes p + pattern_nodes q + 1

-- a nonterminal, and the subtree that it meets
abbrev pub Goal : Type 0
Goal = ℕ × MTree

abbrev pub joined : Option (List Goal) → Option (List Goal) → Option (List Goal)
joined None ys = None
joined (Some xs) None = None
joined (Some xs) (Some ys) = Some (xs ++ ys)

-- Where the pattern fits the tree, operator for operator: its nonterminals from left to right, each with the
-- subtree that it meets.
abbrev pub goals_at : MPattern → MTree → Option (List Goal)
goals_at (PHole n) t = Some ((n, t) ∷ [])
goals_at (PLeaf op) (TLeaf op' v) = if op == op' then Some [] else None
goals_at (POne op p) (TOne op' v a) = if op == op' then goals_at p a else None
goals_at (PTwo op p q) (TTwo op' v a b) = if op == op' then joined (goals_at p a) (goals_at q b) else None
goals_at p t = None
