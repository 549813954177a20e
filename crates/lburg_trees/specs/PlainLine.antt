-- The first line of a text, which holds a tree in its plain form.
use Rattle.std.specs.Prelude.{◌≡◌, ℕ, List, [], ◌∷◌}
use Rattle.lcc_text.specs.Lines.{lines_of}
use Rattle.lburg_model.specs.Tree.{MTree}
use Rattle.lburg_model.specs.Description.{MDescription}
use Rattle.lburg_trees.specs.TailText.{IsLineOf}
use Rattle.lburg_trees.specs.Reading.{IsFineLine}

-- it spells the tree, and has no fault
pub record ReadsLine (d : MDescription) (text behind : List ℕ) (tree : MTree) : Type 0 where
  pub line : List ℕ
  pub lines : lines_of text ≡ line ∷ lines_of behind
  pub is : IsLineOf d line (tree ∷ [])
  pub fine : IsFineLine d line
