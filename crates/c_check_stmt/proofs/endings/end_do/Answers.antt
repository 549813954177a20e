use Rattle.std.proofs.Common.{length, ◌∙◌}
use Rattle.c_meaning.specs.StmtTrees as tree
use Rattle.c_stmt_parts.proofs.lemmas.StatementLayers.{do_seen, do_within}
use Rattle.c_stmt_parts.proofs.lemmas.StatementNodes.{box_later, in_box}
use Rattle.c_check_stmt.proofs.NodeEnds.{ends_memory, ends_told, ends_well}
use Rattle.c_check_stmt.proofs.Shapes.{two_same}
use Rattle.c_check_stmt.proofs.endings.end_do.Goals as goal

pub returns-in_err-test : goal.returns-in_err-test
returns-in_err-test c = ends_told _ _ _ _ _ c.in_err-test.field-0.0 c.from_residual.result c.from_residual.ensures.1 c.in_err-test.ensures.told c.test.ensures.grows

pub returns-in_err-boxed : goal.returns-in_err-boxed
returns-in_err-boxed c = ends_memory _ _ _ _ _ c.from_residual-in_err-boxed.result c.from_residual-in_err-boxed.ensures.1 c.test.ensures.grows

pub returns : goal.returns
returns c =
    let a = c.args.types.now in
    let q = c.test.new.types in
    let g = c.test.ensures.grows in
    let h = g.extends in
    let n = length q.forms in
    let v = c.in_ok-test.test in
    ends_well _ _ _ _ _ _
    (do_seen q c.in_ok-boxed.boxed v ∙ two_same tree.Do (in_box a q h c.args.code c.in_ok-boxed.boxed c.requires.code c.in_ok-boxed.ensures.ok) c.in_ok-test.ensures.ok)
    c.in_ok-test.ensures.sound
    (do_within n c.in_ok-boxed.boxed v (box_later a q h c.args.code c.in_ok-boxed.boxed c.requires.code c.in_ok-boxed.ensures.ok) c.in_ok-test.ensures.within)
    g
