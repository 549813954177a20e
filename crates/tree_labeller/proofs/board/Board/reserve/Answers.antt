use Rattle.std.proofs.Common.{refl, ◌∙◌}
use Rattle.tree_labeller.proofs.FlatRows.{rows_many}
use Rattle.tree_labeller.proofs.board.Board.reserve.Goals as goal

pub returns : goal.returns
returns c = (rows_many c.args.nonterminals c.in_ok-ends.ends.items c.in_ok-cells.cells.items ∙ c.in_ok-ends.ensures, refl)
