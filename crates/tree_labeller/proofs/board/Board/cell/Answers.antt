use Rattle.std.proofs.Common.{sym, ap, ◌∙◌, arith}
use Rattle.tree_labeller.specs.MCells.{MCells}
use Rattle.lburg_tables.specs.RowOf.{seen}
use Rattle.tree_labeller.specs.Labelled.{cell}
use Rattle.tree_labeller.proofs.FlatRows.{cell_there, cell_past, cell_beside}
use Rattle.tree_labeller.proofs.board.Board.cell.Goals.{then-at-len-via-then-at-len, then-at-len-via-else-at-len+then-n-self}
use Rattle.tree_labeller.proofs.board.Board.cell.Goals as goal

pub returns-then-at-len : goal.returns-then-at-len
returns-then-at-len c =
    let b = c.self.inside in
    let view = ap (λ (z : MCells). cell z.rows c.args.at c.args.n) c.self.view_is in
    let len = c.len.ensures in
    elim c.then-at-len.branch [
      | then-at-len-via-then-at-len w ↦ let h = w.if-at-len in sym (cell_past b.width b.ends.items b.cells.items c.args.at c.args.n (omega arith)) ∙ view
      | then-at-len-via-else-at-len+then-n-self w ↦ let h = w.if-n-self in sym (cell_beside b.width b.ends.items b.cells.items c.args.at c.args.n (omega arith)) ∙ view
    ]

pub returns : goal.returns
returns c =
    let b = c.self.inside in
    let len = c.len.ensures in
    let there = cell_there b.width b.ends.items b.cells.items c.args.at c.args.n c.index.result.now (omega arith) (omega arith) c.self.invariant.many in
    c.seen.ensures ∙ ap seen c.index.ensures ∙ sym there ∙ ap (λ (z : MCells). cell z.rows c.args.at c.args.n) c.self.view_is
