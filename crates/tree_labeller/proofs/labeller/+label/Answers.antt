use Rattle.std.proofs.Common.{◌≡◌, ◌∙◌, ℕ, ◌+◌, ◌<◌, List, length, refl, sym, ap, subst, arith}
use Rattle.std.specs.Prelude.{slice_set}
use Rattle.std.proofs.lemmas.List.{length-map}
use Rattle.lburg_model.specs.Tree.{nodes, op_of, value_of}
use Rattle.lburg_model.specs.declared.rule.Rule.{Rule}
use Rattle.lburg_tables.specs.Places.{with_root}
use Rattle.lburg_tables.specs.Root.{Operator}
use Rattle.lburg_tables.specs.Row.{Closed, Everywhere}
use Rattle.lburg_tables.specs.RowOf.{seen, row_of}
use Rattle.tree_labeller.specs.Rows.{Row}
use Rattle.tree_labeller.specs.Labelled.{Started, Filled, Labelled}
use Rattle.tree_labeller.proofs.lemmas.Totals.{nodes_pos}
use Rattle.tree_labeller.specs.Trials.{AtRoot}
use Rattle.tree_labeller.proofs.Counting.{root_trials, no_kids, one_kid, two_kids}
use Rattle.tree_labeller.proofs.Finish.{Agree, kids_two, other_row, own_cells, stored_row}
use Rattle.tree_labeller.proofs.labeller.+label.Goals as goal

pub label_kids-returns-in_default-clause-kids : goal.label_kids-returns-in_default-clause-kids
label_kids-returns-in_default-clause-kids g t c =
    let a = c.label_at-middle in
    let b = c.label_at-in_default in
    let rules = c.args.grammar.now.rules.now in
    let w = c.args.board.now.nonterminals in
    let tree = g.N.TreeNode.tree c.args.tree.now in
    let second = g.N.TreeNode.tree c.kid-in_default-2.result.now in
    let Wide : ℕ → Type 0 = λ x. Labelled b.new.board.rows rules x a.result second in
    kids_two a.new.board.rows b.new.board.rows rules w c.args.at a.result tree (g.N.TreeNode.tree c.kid-in_default.result.now) second
    (λ e. omega (arith, c.arity.ensures, c.in_default)) (λ e. omega (arith, c.arity.ensures, c.in_default)) c.kid-in_default.ensures c.kid-in_default-2.ensures a.ensures.next a.ensures.labelled (subst Wide a.ensures.board.1 b.ensures.labelled) b.ensures.others b.ensures.board.0

pub label_at-returns-clause-labelled : goal.label_at-returns-clause-labelled
label_at-returns-clause-labelled g t c =
    let rules = c.args.grammar.now.rules.now in
    let w = c.args.board.now.nonterminals in
    let tree = g.N.TreeNode.tree c.args.tree.now in
    let board = c.label_kids-next.new.board in
    let base = row_of c.fill_row.new.scratch.base.items in
    let (tries, f, steps) = c.fill_row.ensures.filled in
    let row : Row = record { end = c.label_kids-next.result; cells = f.cells } in
    let pos = nodes_pos tree in
    let room = c.requires.room in
    let same = c.label_kids-next.ensures.board.0 in
    let inside : c.args.at < length board.rows = omega arith in
    let wide : length base ≡ w = length-map c.fill_row.new.scratch.base.items seen ∙ c.fill_row.ensures.scratch.started ∙ c.label_kids-next.ensures.board.1 in
    let Closes : List Rule → Type 0 = λ rs. Closed rs (value_of tree) base f.cells in
    let filled : Filled board.rows rules c.args.at tree w f.cells = (base, c.fill_row.ensures.started, subst Closes (sym c.requires.same) f.closed, wide) in
    let Rows : List Row → Type 0 = λ x. Labelled x rules w c.args.at tree in
    subst Rows (sym f.stored)
    (stored_row board.rows rules w c.args.at tree f.cells row c.label_kids-next.ensures.kids filled refl c.label_kids-next.ensures.next c.requires.are.cheap inside)

pub label_at-returns-clause-trials : goal.label_at-returns-clause-trials
label_at-returns-clause-trials g t c =
    let d = c.args.grammar.now.tables.now in
    let rules = c.args.grammar.now.rules.now in
    let w = c.args.board.now.nonterminals in
    let tree = g.N.TreeNode.tree c.args.tree.now in
    let board = c.label_kids-next.new.board in
    let base = row_of c.fill_row.new.scratch.base.items in
    let (tries, f, steps) = c.fill_row.ensures.filled in
    let row : Row = record { end = c.label_kids-next.result; cells = f.cells } in
    let pos = nodes_pos tree in
    let room = c.requires.room in
    let same = c.label_kids-next.ensures.board.0 in
    let inside : c.args.at < length board.rows = omega arith in
    let wide : length base ≡ w = length-map c.fill_row.new.scratch.base.items seen ∙ c.fill_row.ensures.scratch.started ∙ c.label_kids-next.ensures.board.1 in
    let Closes : List Rule → Type 0 = λ rs. Closed rs (value_of tree) base f.cells in
    let filled : Filled board.rows rules c.args.at tree w f.cells = (base, c.fill_row.ensures.started, subst Closes (sym c.requires.same) f.closed, wide) in
    let rows = slice_set board.rows c.args.at row in
    let labelled = stored_row board.rows rules w c.args.at tree f.cells row c.label_kids-next.ensures.kids filled refl c.label_kids-next.ensures.next c.requires.are.cheap inside in
    let own = own_cells board.rows c.args.at row f.cells inside refl in
    let agree : Agree board.rows rows (c.args.at + 1) (c.args.at + nodes tree) = λ i l h. other_row board.rows c.args.at row i (λ e. omega arith) in
    let ByRules : List Rule → Type 0 = λ rs. Labelled rows rs w c.args.at tree in
    let Starts : List Rule → Type 0 = λ rs. Started board.rows rs c.args.at tree base Everywhere in
    let root = root_trials board.rows rows d w c.args.at tree base (subst ByRules c.requires.same labelled) agree (subst Starts c.requires.same c.fill_row.ensures.started) f.cells tries own f.tried in
    let op = op_of tree in
    let with_op = ap (λ (rs : List Rule). with_root (Operator op) rs) c.requires.same in
    let (below, kids, more) = c.label_kids-next.ensures.trials in
    (with_root (Operator op) d.rules + tries + below, AtRoot root kids, omega arith)

pub label_kids-returns-in-0-clause-trials : goal.label_kids-returns-in-0-clause-trials
label_kids-returns-in-0-clause-trials g t c = (0, no_kids c.args.grammar.now.tables.now (g.N.TreeNode.tree c.args.tree.now) (omega (arith, c.arity.ensures, c.in-0.is)), omega arith)

pub label_kids-returns-in-1-clause-trials : goal.label_kids-returns-in-1-clause-trials
label_kids-returns-in-1-clause-trials g t c =
    let a = c.label_at.ensures.trials in
    let s = a.2 in
    (a.0 + 0, one_kid c.args.grammar.now.tables.now (g.N.TreeNode.tree c.args.tree.now) (g.N.TreeNode.tree c.kid.result.now) a.0 (omega (arith, c.arity.ensures, c.in-1.is)) c.kid.ensures a.1, omega arith)

pub label_kids-returns-in_default-clause-trials : goal.label_kids-returns-in_default-clause-trials
label_kids-returns-in_default-clause-trials g t c =
    let a = c.label_at-middle.ensures.trials in
    let b = c.label_at-in_default.ensures.trials in
    let s = a.2 in
    let u = b.2 in
    (a.0 + (b.0 + 0), two_kids c.args.grammar.now.tables.now (g.N.TreeNode.tree c.args.tree.now) (g.N.TreeNode.tree c.kid-in_default.result.now) (g.N.TreeNode.tree c.kid-in_default-2.result.now) a.0 b.0 c.kid-in_default.ensures c.kid-in_default-2.ensures a.1 b.1, omega arith)
