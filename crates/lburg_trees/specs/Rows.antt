-- The faults of a line of a tail, in the order of the table.
use Rattle.std.specs.Prelude.{ℕ, List}
use Rattle.lburg_lines.specs.Tokens.{Tok}
use Rattle.lburg_model.specs.Description.{MDescription}
use Rattle.lburg_trees.specs.declared.row.Row.{Row}
use Rattle.lburg_trees.specs.declared.row.Row.TheVariants.{BadTree, UnknownOp, WrongArity, TooLarge, TooHigh}
use Rattle.lburg_trees.specs.Setting.{Before, nothing}
use Rattle.lburg_trees.specs.BadTree.{IsBadTree}
use Rattle.lburg_trees.specs.UnknownOp.{IsUnknownOp}
use Rattle.lburg_trees.specs.WrongArity.{IsWrongArity}
use Rattle.lburg_trees.specs.TooLarge.{IsTooLarge}
use Rattle.lburg_trees.specs.TooHigh.{IsTooHigh}

-- those that names and counts have
abbrev pub Means : MDescription → Before → Row → List Tok → ℕ → Type 0
Means d before BadTree tokens place = ⊥
Means d before UnknownOp tokens place = IsUnknownOp d tokens place
Means d before WrongArity tokens place = IsWrongArity d tokens place
Means d before TooLarge tokens place = IsTooLarge before tokens place
Means d before TooHigh tokens place = IsTooHigh before tokens place

-- all of them, in a whole line
abbrev pub Stands : MDescription → Row → List Tok → ℕ → Type 0
Stands d BadTree tokens place = IsBadTree tokens place
Stands d row tokens place = Means d nothing row tokens place

abbrev pub row_number : Row → ℕ
row_number BadTree = 1
row_number UnknownOp = 2
row_number WrongArity = 3
row_number TooLarge = 4
row_number TooHigh = 5
