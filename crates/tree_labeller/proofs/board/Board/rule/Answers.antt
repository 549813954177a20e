use Rattle.std.proofs.Common.{length, sym, ap, ◌∙◌, arith}
use Rattle.lburg_tables.specs.declared.cell.Cell.{Cell}
use Rattle.lburg_tables.specs.RowOf.{seen}
use Rattle.lburg_tables.proofs.lemmas.RowLaws.{seen_is}
use Rattle.tree_labeller.specs.MCells.{MCells}
use Rattle.tree_labeller.specs.Labelled.{cell}
use Rattle.tree_labeller.proofs.FlatRows.{row_within, cell_there, cell_inside}
use Rattle.tree_labeller.proofs.board.Board.rule.Goals as goal

pub overflow_mul-at : goal.overflow_mul-at
overflow_mul-at c =
    let b = c.self.inside in
    let view = ap (λ (z : MCells). cell z.rows c.args.at c.args.n) c.self.view_is in
    let inside = cell_inside b.width b.ends.items b.cells.items c.args.at c.args.n (λ e. c.requires (sym view ∙ e)) in
    let row = row_within b.width (length b.ends.items) c.args.at inside.0 in
    let small = c.self.invariant.small in
    omega arith

pub overflow_add-at : goal.overflow_add-at
overflow_add-at c =
    let b = c.self.inside in
    let view = ap (λ (z : MCells). cell z.rows c.args.at c.args.n) c.self.view_is in
    let inside = cell_inside b.width b.ends.items b.cells.items c.args.at c.args.n (λ e. c.requires (sym view ∙ e)) in
    let row = row_within b.width (length b.ends.items) c.args.at inside.0 in
    let narrow = inside.1 in
    let small = c.self.invariant.small in
    omega arith

pub index-requires : goal.index-requires
index-requires c =
    let b = c.self.inside in
    let view = ap (λ (z : MCells). cell z.rows c.args.at c.args.n) c.self.view_is in
    let inside = cell_inside b.width b.ends.items b.cells.items c.args.at c.args.n (λ e. c.requires (sym view ∙ e)) in
    let row = row_within b.width (length b.ends.items) c.args.at inside.0 in
    let narrow = inside.1 in
    let many = c.self.invariant.many in
    omega arith

pub returns : goal.returns
returns c = λ x is.
    let b = c.self.inside in
    let view = ap (λ (z : MCells). cell z.rows c.args.at c.args.n) c.self.view_is in
    let inside = cell_inside b.width b.ends.items b.cells.items c.args.at c.args.n (λ e. c.requires (sym view ∙ e)) in
    let there = cell_there b.width b.ends.items b.cells.items c.args.at c.args.n c.index.result.now inside.0 inside.1 c.self.invariant.many in
    ap (λ (z : Cell). z.rule) (seen_is c.index.result.now x (ap seen c.index.ensures ∙ sym there ∙ view ∙ is))
