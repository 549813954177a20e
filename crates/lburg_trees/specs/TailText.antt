-- The trees of a text's tail, one a line.
use Rattle.std.specs.Prelude.{◌≡◌, ◌≤◌, ◌⊎◌, ℕ, ◌+◌, max, Some, None, List, [], ◌∷◌, ◌++◌, option_map}
use Rattle.lburg_lines.specs.Tokens.{Tok}
use Rattle.lburg_lines.specs.Spelling.{Spells}
use Rattle.lburg_lines.specs.Numbers.{number_value}
use Rattle.lburg_model.specs.declared.terminal.Terminal.{Terminal}
use Rattle.lburg_model.specs.Tree.{MTree, TLeaf, TOne, TTwo, nodes}
use Rattle.lburg_model.specs.Description.{MDescription, terminal_at}
use Rattle.lburg_trees.specs.TailTree.{MTail, Alone, Over, Both, HasNumbers, tree_then}
use Rattle.lburg_trees.specs.FirstFault.{IsTailOf}

-- the operator has this name and may have this many operands: as many as the rules give it, any number where no
-- rule uses it
abbrev pub MayHave : MDescription → ℕ → List ℕ → ℕ → Type 0
MayHave d op name n = (t : Terminal) × (terminal_at d op ≡ Some t) × (t.name ≡ name) × ((t.arity ≡ Some n) ⊎ (t.arity ≡ None))

abbrev pub TreeMeans : MDescription → MTail → MTree → Type 0
TreeMeans d (Alone name c) (TLeaf op value) = MayHave d op name 0 × (value ≡ option_map number_value c)
TreeMeans d (Over name c a) (TOne op value t) = MayHave d op name 1 × (value ≡ option_map number_value c) × TreeMeans d a t
TreeMeans d (Both name c a b) (TTwo op value t u) = MayHave d op name 2 × (value ≡ option_map number_value c) × TreeMeans d a t × TreeMeans d b u
TreeMeans d s t = ⊥

-- how many names stand on the longest way down
abbrev pub height : MTail → ℕ
height (Alone n c) = 1
height (Over n c a) = height a + 1
height (Both n c a b) = max (height a) (height b) + 1

-- the tokens are those of this tree, of at most 65,535 nodes, in which no parenthesis opens while 499 are open
pub record IsTree (d : MDescription) (tokens : List Tok) (tree : MTree) : Type 0 where
  pub written : MTail
  pub numbers : HasNumbers written
  pub tokens_are : tokens ≡ tree_then written []
  pub means : TreeMeans d written tree
  pub small : nodes tree ≤ 65535
  pub low : height written ≤ 500

-- a line is blank, or spells a tree
abbrev pub IsLineOf : MDescription → List ℕ → List MTree → Type 0
IsLineOf d line [] = Spells [] line
IsLineOf d line (tree ∷ []) = (tokens : List Tok) × Spells tokens line × IsTree d tokens tree
IsLineOf d line (tree ∷ other ∷ trees) = ⊥

-- line by line
abbrev pub AreTrees : MDescription → List (List ℕ) → List MTree → Type 0
AreTrees d [] trees = trees ≡ []
AreTrees d (line ∷ lines) trees = (here others : List MTree) × IsLineOf d line here × (trees ≡ here ++ others) × AreTrees d lines others

-- the tail spells these trees; where there is no tail it spells none
pub record IsTail (d : MDescription) (trees : List MTree) (text : List ℕ) : Type 0 where
  pub before : ℕ
  pub lines : List (List ℕ)
  pub tail : IsTailOf text before lines
  pub spelled : AreTrees d lines trees
