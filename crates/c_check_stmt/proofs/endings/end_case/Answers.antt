use Rattle.std.proofs.Common.{ap, length, ◌∙◌}
use Rattle.c_meaning.specs.StmtTrees as tree
use Rattle.c_values.specs.Stays.{extends_itself, grows_itself}
use Rattle.c_stmt_parts.proofs.lemmas.StatementLayers.{label_seen, label_within}
use Rattle.c_stmt_parts.proofs.lemmas.StatementNodes.{box_later, in_box}
use Rattle.c_check_stmt.proofs.NodeEnds.{ends_memory, ends_told, ends_well}
use Rattle.c_check_stmt.proofs.endings.end_case.Goals as goal

pub returns-in_err-case : goal.returns-in_err-case
returns-in_err-case c = ends_told _ _ _ _ _ c.in_err-case.field-0.0 c.from_residual.result c.from_residual.ensures.1 c.in_err-case.ensures.told (grows_itself c.args.types.now)

pub returns-in_err-boxed : goal.returns-in_err-boxed
returns-in_err-boxed c = ends_memory _ _ _ _ _ c.from_residual-in_err-boxed.result c.from_residual-in_err-boxed.ensures.1 (grows_itself c.args.types.now)

pub returns : goal.returns
returns c =
    let t = c.args.types.now in
    let i = c.requires.code in
    ends_well _ _ _ _ _ _ (label_seen t c.args.mark.number c.in_ok-boxed.boxed ∙ ap (tree.Label c.args.mark.number) (in_box t t (extends_itself t) c.args.code c.in_ok-boxed.boxed i c.in_ok-boxed.ensures.ok)) c.in_ok-case.ensures.sound
    (label_within (length t.forms) c.args.mark.number c.in_ok-boxed.boxed (box_later t t (extends_itself t) c.args.code c.in_ok-boxed.boxed i c.in_ok-boxed.ensures.ok)) (grows_itself t)
