use Rattle.std.proofs.Common.{◌≡◌, ◌*◌, List, length, refl, sym, ap, ◌∙◌, arith}
use Rattle.std.specs.Prelude.{slice_set}
use Rattle.std.proofs.lemmas.List.{with_items_is}
use Rattle.lburg_tables.specs.declared.cell.Cell.{Cell}
use Rattle.tree_labeller.specs.MCells.{MCells}
use Rattle.lburg_tables.specs.RowOf.{row_of}
use Rattle.tree_labeller.specs.Rows.{rows_of, with_row}
use Rattle.tree_labeller.proofs.FlatRows.{room_is, row_within, row_stored}
use Rattle.tree_labeller.proofs.board.Board.fill.Goals as goal

pub overflow_mul-at : goal.overflow_mul-at
overflow_mul-at g c =
    let b = c.self.inside in
    let many = room_is c.args.self.now b.width b.ends.items b.cells.items (sym c.self.view_is) in
    let small = c.self.invariant.small in
    let inside = row_within b.width (length b.ends.items) c.args.at (omega arith) in
    omega arith

pub fill_cells-requires-clause-within : goal.fill_cells-requires-clause-within
fill_cells-requires-clause-within g c =
    let b = c.self.inside in
    let many = room_is c.args.self.now b.width b.ends.items b.cells.items (sym c.self.view_is) in
    let inside = row_within b.width (length b.ends.items) c.args.at (omega arith) in
    let cells = c.self.invariant.many in
    let wide = ap (λ (z : MCells). z.nonterminals) c.self.view_is in
    let row = c.requires.as_wide in
    let same = ap (λ (l : List Cell). length l) c.deref_mut.ensures.value in
    omega arith

pub index_mut-requires : goal.index_mut-requires
index_mut-requires g c = let b = c.self.inside in let many = room_is c.args.self.now b.width b.ends.items b.cells.items (sym c.self.view_is) in omega arith

pub returns-clause-filled : goal.returns-clause-filled
returns-clause-filled g c =
    let b = c.self.inside in
    let (tries, f, steps) = c.fill_cells.ensures.filled in
    let many = room_is c.args.self.now b.width b.ends.items b.cells.items (sym c.self.view_is) in
    let wide = ap (λ (z : MCells). z.nonterminals) c.self.view_is in
    let long = f.long in
    let as_wide = c.requires.as_wide in
    let within : length c.args.base.now.cells.now ≡ b.width = omega arith in
    let ends = slice_set b.ends.items c.args.at c.args.end in
    let start = c.args.at * b.width in
    let stored = row_stored b.width b.ends.items b.cells.items f.row c.args.at c.args.end start refl (omega arith) (omega arith) c.self.invariant.many in
    let items = with_items_is b.cells c.fill_cells.new.cells (c.fill_cells.auto.cells ∙ c.deref_mut.ensures.len) in
    let cells = f.stored ∙ ap (λ (l : List Cell). with_row start (length c.args.base.now.cells.now) l f.row) c.deref_mut.ensures.value ∙ ap (λ k. with_row start k b.cells.items f.row) within in (
      tries,
      record {
        cells = row_of f.row;
        closed = f.closed;
        tried = f.tried;
        stored = ap (rows_of b.width ends) (items ∙ cells) ∙ stored ∙ ap (λ (z : MCells). slice_set z.rows c.args.at (record { end = c.args.end; cells = row_of f.row })) c.self.view_is;
      },
      steps,
    )
