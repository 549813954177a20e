-- The first fault of a tail: the first in the text, within a line the first from the left, at one place the first of the table.
use Rattle.std.specs.Prelude.{◌≡◌, ℕ, ◌+◌, Some, List, drop, length, slice_get}
use Rattle.lcc_text.specs.Lines.{lines_of}
use Rattle.lcc_text.specs.Firsts.{Place, IsFirst}
use Rattle.lburg_lines.specs.declared.section.Section.TheVariants.{Head}
use Rattle.lburg_lines.specs.Tokens.{Tok}
use Rattle.lburg_lines.specs.Spelling.{Spells}
use Rattle.lburg_lines.specs.Sections.{TokenLine, AreLinesFrom}
use Rattle.lburg_model.specs.Description.{MDescription}
use Rattle.lburg_trees.specs.declared.row.Row.{Row}
use Rattle.lburg_trees.specs.declared.row.Row.TheVariants as row
use Rattle.lburg_trees.specs.declared.tree_fault.TreeFault.{TreeFault}
use Rattle.lburg_trees.specs.declared.tree_fault.TreeFault.TheVariants as fault
use Rattle.lburg_trees.specs.Rows.{Stands, row_number}

-- The lines of the tail: those behind the lines of the description, which are so many.
pub record IsTailOf (text : List ℕ) (before : ℕ) (lines : List (List ℕ)) : Type 0 where
  pub described : List TokenLine
  pub are : AreLinesFrom Head (lines_of text) described
  pub before_is : before ≡ length described
  pub lines_are : lines ≡ drop before (lines_of text)

-- a fault stands at the place, where so many lines stand before the tail
pub record StandsIn (d : MDescription) (before : ℕ) (lines : List (List ℕ)) (place : Place) : Type 0 where
  pub index : ℕ
  pub line : List ℕ
  pub there : slice_get lines index ≡ Some line
  pub number : place.line ≡ before + index + 1
  pub tokens : List Tok
  pub spelled : Spells tokens line
  pub which : Row
  pub row_is : place.row ≡ row_number which
  pub stands : Stands d which tokens place.token

-- the fault of the line with this number
abbrev pub told : Row → ℕ → TreeFault
told row.BadTree n = fault.BadTree n
told row.UnknownOp n = fault.UnknownOp n
told row.WrongArity n = fault.WrongArity n
told row.TooLarge n = fault.TooLarge n
told row.TooHigh n = fault.TooHigh n

pub record FirstFault (d : MDescription) (text : List ℕ) (f : TreeFault) : Type 0 where
  pub before : ℕ
  pub lines : List (List ℕ)
  pub tail : IsTailOf text before lines
  pub place : Place
  pub first : IsFirst (StandsIn d before lines) place
  pub which : Row
  pub row_is : place.row ≡ row_number which
  pub told_is : f ≡ told which place.line
