use Rattle.std.proofs.Common.{◌∙◌, List, length, ap, subst, arith}
use Rattle.std.proofs.lemmas.List.{with_items_is}
use Rattle.lburg_tables.specs.declared.cell.Cell.{Cell}
use Rattle.lburg_tables.specs.Row.{CellAt}
use Rattle.lburg_tables.specs.RowOf.{row_of}
use Rattle.tree_labeller.proofs.Finish.{bound_short, bound_cheap, bound_named, area_more}
use Rattle.tree_labeller.proofs.labeller.fill_row.Goals as goal

pub fill-requires-clause-named : goal.fill-requires-clause-named
fill-requires-clause-named g c = λ n b at.
    let base = c.deref.ensures.value ∙ with_items_is c.args.scratch.now.base c.start_row.new.row (c.start_row.auto.row ∙ c.as_mut_slice.ensures.len) in
    let Here : List Cell → Type 0 = λ cells. CellAt (row_of cells) n b in
    bound_named _ _ c.args.board.now.nonterminals _ _ _ c.requires.kids c.start_row.ensures.started (length c.args.grammar.now.tables.now.nonterminals) c.requires.named.lefts n b (subst Here base at)

pub fill-requires-clause-short : goal.fill-requires-clause-short
fill-requires-clause-short g c = λ n b at.
    let w = c.args.board.now.nonterminals in
    let tree = g.N.TreeNode.tree c.args.tree.now in
    let base = c.deref.ensures.value ∙ with_items_is c.args.scratch.now.base c.start_row.new.row (c.start_row.auto.row ∙ c.as_mut_slice.ensures.len) in
    let Here : List Cell → Type 0 = λ cells. CellAt (row_of cells) n b in
    let short = bound_short _ _ w _ _ _ c.requires.kids c.start_row.ensures.started n b (subst Here base at) in
    let most = area_more w tree in
    let small = c.requires.small in
    let started = c.requires.scratch.started in
    let long = ap (λ (l : List Cell). length l) base in
    let same = c.start_row.auto.row in
    let one = c.as_mut_slice.ensures.len in
    omega arith

pub fill-requires-clause-cheap : goal.fill-requires-clause-cheap
fill-requires-clause-cheap g c = λ n b at.
    let base = c.deref.ensures.value ∙ with_items_is c.args.scratch.now.base c.start_row.new.row (c.start_row.auto.row ∙ c.as_mut_slice.ensures.len) in
    let Here : List Cell → Type 0 = λ cells. CellAt (row_of cells) n b in
    bound_cheap _ _ c.args.board.now.nonterminals _ _ _ c.requires.kids c.start_row.ensures.started c.requires.are.cheap n b (subst Here base at)
