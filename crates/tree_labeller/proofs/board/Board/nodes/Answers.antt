use Rattle.std.proofs.Common.{sym, arith}
use Rattle.tree_labeller.proofs.FlatRows.{room_is}
use Rattle.tree_labeller.proofs.board.Board.nodes.Goals as goal

pub returns : goal.returns
returns c = let b = c.self.inside in let many = room_is c.args.self.now b.width b.ends.items b.cells.items (sym c.self.view_is) in let len = c.len.ensures in omega arith
