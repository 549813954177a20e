use Rattle.std.proofs.Common.{length, ap, subst, sym, ◌∙◌}
use Rattle.c_meaning.specs.CoreTrees.{IsIn}
use Rattle.c_check_expr.specs.Walks.{core}
use Rattle.c_meaning.specs.StmtTrees as tree
use Rattle.c_stmt_parts.proofs.lemmas.StatementLayers.{switch_seen, switch_within}
use Rattle.c_stmt_parts.proofs.lemmas.StatementNodes.{box_later, in_box}
use Rattle.c_check_stmt.proofs.NodeEnds.{ends_memory, ends_told, ends_well}
use Rattle.c_check_stmt.proofs.Shapes.{three_same}
use Rattle.c_check_stmt.proofs.endings.end_switch.Goals as goal

pub returns-in_err-value : goal.returns-in_err-value
returns-in_err-value c = ends_told _ _ _ _ _ c.in_err-value.field-0.0 c.from_residual.result c.from_residual.ensures.1 c.in_err-value.ensures.told c.switched.ensures.grows

pub returns-in_err-boxed_value : goal.returns-in_err-boxed_value
returns-in_err-boxed_value c = ends_memory _ _ _ _ _ c.from_residual-in_err-boxed_value.result c.from_residual-in_err-boxed_value.ensures.1 c.switched.ensures.grows

pub returns-in_err-cases : goal.returns-in_err-cases
returns-in_err-cases c = ends_memory _ _ _ _ _ c.from_residual-in_err-cases.result c.from_residual-in_err-cases.ensures.1 c.switched.ensures.grows

pub returns-in_err-boxed : goal.returns-in_err-boxed
returns-in_err-boxed c = ends_memory _ _ _ _ _ c.from_residual-in_err-boxed.result c.from_residual-in_err-boxed.ensures.1 c.switched.ensures.grows

pub returns : goal.returns
returns c =
    let a = c.args.types.now in
    let q = c.switched.new.types in
    let g = c.switched.ensures.grows in
    let h = g.extends in
    let n = length q.forms in
    let v = c.in_ok-boxed_value.boxed_value in
    let same = c.in_ok-boxed_value.ensures.ok in
    ends_well _ _ _ _ _ _
    (switch_seen q v c.in_ok-cases.cases c.args.own.default c.in_ok-boxed.boxed ∙ three_same (λ x cs s. tree.Switch x cs c.args.own.default s) (ap (core q) same ∙ c.in_ok-value.ensures.ok) c.in_ok-cases.ensures (in_box a q h c.args.code c.in_ok-boxed.boxed c.requires.code c.in_ok-boxed.ensures.ok))
    c.in_ok-value.ensures.sound
    (switch_within n v c.in_ok-cases.cases c.args.own.default c.in_ok-boxed.boxed (subst (IsIn n) (sym same) c.in_ok-value.ensures.within) (box_later a q h c.args.code c.in_ok-boxed.boxed c.requires.code c.in_ok-boxed.ensures.ok))
    g
