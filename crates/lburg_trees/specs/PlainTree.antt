-- A tree of a tail in its plain form: without constants, and with nothing between its names, parentheses and commas.
use Rattle.std.specs.Prelude.{◌≡◌, ◌≤◌, ℕ, ◌+◌, None, List, [], ◌∷◌, ◌++◌}
use Rattle.lburg_model.specs.Tree.{MTree, nodes}
use Rattle.lburg_model.specs.Description.{MDescription}
use Rattle.lburg_trees.specs.Setting.{Before}
use Rattle.lburg_trees.specs.TailTree.{MTail, Alone, Over, Both}
use Rattle.lburg_trees.specs.TailText.{TreeMeans, height}

abbrev pub IsPlain : MTail → Type 0
IsPlain (Alone n c) = c ≡ None
IsPlain (Over n c a) = (c ≡ None) × IsPlain a
IsPlain (Both n c a b) = (c ≡ None) × IsPlain a × IsPlain b

-- the bytes of a tree, and rest behind them
abbrev pub plain_then : MTail → List ℕ → List ℕ
plain_then (Alone n c) rest = n ++ rest
plain_then (Over n c a) rest = n ++ (40 ∷ plain_then a (41 ∷ rest))
plain_then (Both n c a b) rest = n ++ (40 ∷ plain_then a (44 ∷ plain_then b (41 ∷ rest)))

-- a tree stands at the front
pub record ReadsPlain (d : MDescription) (before : Before) (bytes rest : List ℕ) (tree : MTree) : Type 0 where
  pub written : MTail
  pub plain : IsPlain written
  pub parts : bytes ≡ plain_then written rest
  pub means : TreeMeans d written tree
  pub small : before.names + nodes tree ≤ 65535
  pub low : before.opened + height written ≤ 500

-- a tree stands at the front, which is added to the operands; so many names came up to its end
pub record AddsPlain (d : MDescription) (before : Before) (bytes rest : List ℕ) (names : ℕ) (old new : List MTree) : Type 0 where
  pub tree : MTree
  pub reads : ReadsPlain d before bytes rest tree
  pub counted : names ≡ before.names + nodes tree
  pub added : new ≡ old ++ tree ∷ []
