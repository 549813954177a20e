use Rattle.std.proofs.Common.{◌≡◌, ap, length, subst, sym, ◌∙◌}
use Rattle.c_meaning.specs.StmtTrees as tree
use Rattle.c_meaning.specs.declared.core_stmt.CoreForHead.{CoreForHead}
use Rattle.c_check_decl.specs.Declares.{stmt_in}
use Rattle.c_units.specs.Bodies.{maybe_value}
use Rattle.c_stmt_parts.specs.Asked.{maybe_core}
use Rattle.c_stmt_parts.specs.Heads.{IsHeadIn}
use Rattle.c_stmt_parts.proofs.lemmas.StatementLayers.{for_seen, for_within}
use Rattle.c_stmt_parts.proofs.lemmas.StatementNodes.{box_later, in_box}
use Rattle.c_check_stmt.proofs.NodeEnds.{ends_memory, ends_told, ends_well}
use Rattle.c_check_stmt.proofs.Shapes.{three_same}
use Rattle.c_check_stmt.proofs.endings.end_for.Goals as goal

pub returns-in_err-own : goal.returns-in_err-own
returns-in_err-own c = ends_told _ _ _ _ _ c.in_err-own.field-0.0 c.from_residual.result c.from_residual.ensures.1 c.in_err-own.ensures.told c.repeated.ensures.grows

pub returns-in_err-own-2 : goal.returns-in_err-own-2
returns-in_err-own-2 c = ends_memory _ _ _ _ _ c.from_residual-in_err-own-2.result c.from_residual-in_err-own-2.ensures.1 c.repeated.ensures.grows

pub returns-in_err-body : goal.returns-in_err-body
returns-in_err-body c = ends_memory _ _ _ _ _ c.from_residual-in_err-body.result c.from_residual-in_err-body.ensures.1 c.repeated.ensures.grows

pub returns : goal.returns
returns c =
    let a = c.args.types.now in
    let q = c.repeated.new.types in
    let g = c.repeated.ensures.grows in
    let h = g.extends in
    let n = length q.forms in
    let v = c.in_ok-own.own in
    let w = c.in_ok-own-2.own in
    let is : w.value ≡ v = c.in_ok-own-2.ensures.ok in
    let u = subst (IsHeadIn n) (sym is) c.in_ok-own.ensures.within in
    let b = c.in_ok-body.body in
    ends_well _ _ _ _ _ _
    (for_seen q w b ∙ ap (λ (x : CoreForHead). tree.For (maybe_core q x.first) (maybe_core q x.test) (maybe_core q x.last) (stmt_in q b.value)) is ∙ three_same (λ x y z. tree.For x y z (stmt_in q b.value)) c.in_ok-own.ensures.first c.in_ok-own.ensures.test c.in_ok-own.ensures.last ∙ ap (tree.For (maybe_value (maybe_core a c.args.head.first)) (maybe_value (maybe_core a c.args.head.test)) (maybe_value (maybe_core a c.args.head.last))) (in_box a q h c.args.code b c.requires.code c.in_ok-body.ensures.ok))
    c.in_ok-own.ensures.sound
    (for_within n w b u.first u.test u.last (box_later a q h c.args.code b c.requires.code c.in_ok-body.ensures.ok))
    g
