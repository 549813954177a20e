-- What becomes of the first line of a text.
use Rattle.std.specs.Prelude.{◌≡◌, ◌≤◌, ℕ, ◌+◌, List, ◌∷◌, length}
use Rattle.lcc_text.specs.Lines.{lines_of}
use Rattle.lburg_model.specs.Tree.{MTree}
use Rattle.lburg_model.specs.Description.{MDescription}
use Rattle.lburg_trees.specs.declared.stop.Stop.{Stop}
use Rattle.lburg_trees.specs.TailText.{IsLineOf}
use Rattle.lburg_trees.specs.Reading.{IsFineLine, LineFails}
use Rattle.lburg_trees.specs.Taking.{Takes}

-- its trees, of which there is one at most, were taken, the first with this number
pub record TakesLine {T : Type 0} (d : MDescription) (takes : T → ℕ → MTree → T → Type 0) (number next : ℕ) (text behind : List ℕ) (old new : T) : Type 0 where
  pub line : List ℕ
  pub lines : lines_of text ≡ line ∷ lines_of behind
  pub here : List MTree
  pub is : IsLineOf d line here
  pub taken : Takes takes number here old new
  pub next_is : next ≡ number + length here
  pub few : next ≤ number + 1
  pub fine : IsFineLine d line

-- it has this fault, or memory was refused
pub record FailsLine (d : MDescription) (text : List ℕ) (s : Stop) : Type 0 where
  pub line : List ℕ
  pub others : List (List ℕ)
  pub lines : lines_of text ≡ line ∷ others
  pub fails : LineFails d line s
