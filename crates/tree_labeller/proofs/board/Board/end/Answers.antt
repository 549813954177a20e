use Rattle.std.proofs.Common.{sym, ap, ◌∙◌, arith}
use Rattle.std.specs.Prelude.{slice_get}
use Rattle.tree_labeller.specs.MCells.{MCells}
use Rattle.tree_labeller.specs.Labelled.{end_of}
use Rattle.tree_labeller.proofs.FlatRows.{room_is, end_there}
use Rattle.tree_labeller.proofs.board.Board.end.Goals as goal

pub index-requires : goal.index-requires
index-requires c = let b = c.self.inside in let many = room_is c.args.self.now b.width b.ends.items b.cells.items (sym c.self.view_is) in omega arith

pub returns : goal.returns
returns c =
    let b = c.self.inside in
    let many = room_is c.args.self.now b.width b.ends.items b.cells.items (sym c.self.view_is) in
    let there = end_there b.width b.ends.items b.cells.items c.args.at c.index.result.now (omega arith) in
    let is = ap (λ (z : MCells). end_of (slice_get z.rows c.args.at)) c.self.view_is in
    c.index.ensures ∙ sym there ∙ is
