use Rattle.std.proofs.Common.{length, ap, subst, sym, ◌∙◌}
use Rattle.c_meaning.specs.CoreTrees.{IsIn}
use Rattle.c_check_expr.specs.Walks.{core}
use Rattle.c_meaning.specs.StmtTrees as tree
use Rattle.c_stmt_parts.proofs.lemmas.StatementLayers.{if_seen, if_within}
use Rattle.c_stmt_parts.proofs.lemmas.StatementNodes.{box_later, in_box}
use Rattle.c_check_stmt.proofs.NodeEnds.{ends_memory, ends_told, ends_well}
use Rattle.c_check_stmt.proofs.Shapes.{three_same}
use Rattle.c_check_stmt.proofs.endings.end_if.Goals as goal

pub returns-in_err-test : goal.returns-in_err-test
returns-in_err-test c = ends_told _ _ _ _ _ c.in_err-test.field-0.0 c.from_residual.result c.from_residual.ensures.1 c.in_err-test.ensures.told c.test.ensures.grows

pub returns-in_err-boxed : goal.returns-in_err-boxed
returns-in_err-boxed c = ends_memory _ _ _ _ _ c.from_residual-in_err-boxed.result c.from_residual-in_err-boxed.ensures.1 c.test.ensures.grows

pub returns-in_err-then : goal.returns-in_err-then
returns-in_err-then c = ends_memory _ _ _ _ _ c.from_residual-in_err-then.result c.from_residual-in_err-then.ensures.1 c.test.ensures.grows

pub returns-in_err-otherwise : goal.returns-in_err-otherwise
returns-in_err-otherwise c = ends_memory _ _ _ _ _ c.from_residual-in_err-otherwise.result c.from_residual-in_err-otherwise.ensures.1 c.test.ensures.grows

pub returns : goal.returns
returns c =
    let a = c.args.types.now in
    let q = c.test.new.types in
    let g = c.test.ensures.grows in
    let h = g.extends in
    let n = length q.forms in
    let v = c.in_ok-boxed.boxed in
    let same = c.in_ok-boxed.ensures.ok in
    ends_well _ _ _ _ _ _
    (if_seen q v c.in_ok-then.then c.in_ok-otherwise.otherwise ∙ three_same tree.If (ap (core q) same ∙ c.in_ok-test.ensures.ok) (in_box a q h c.args.code c.in_ok-then.then c.requires.code c.in_ok-then.ensures.ok) (in_box a q h c.args.other c.in_ok-otherwise.otherwise c.requires.other c.in_ok-otherwise.ensures.ok))
    c.in_ok-test.ensures.sound
    (if_within n v c.in_ok-then.then c.in_ok-otherwise.otherwise (subst (IsIn n) (sym same) c.in_ok-test.ensures.within) (box_later a q h c.args.code c.in_ok-then.then c.requires.code c.in_ok-then.ensures.ok) (box_later a q h c.args.other c.in_ok-otherwise.otherwise c.requires.other c.in_ok-otherwise.ensures.ok))
    g
