-- Each return of a walk over statements: what was typed of the parts, and then of the statement.
use Rattle.std.proofs.Common.{[], ◌++◌, None, length, refl, sym, ap, ◌∙◌, subst, arith}
use Rattle.std.specs.Prelude.{Ok, Some}
use Rattle.c_ast.specs.Seen.{expr_seen}
use Rattle.c_ast.specs.declared.statement.Block.{out-Block}
use Rattle.c_ast.specs.declared.statement.Statement.{out-Statement}
use Rattle.c_ast.specs.declared.statement.StatementForm.TheVariants as form
use Rattle.c_meaning.specs.StmtTrees.{stmt_of}
use Rattle.c_meaning.specs.StmtTrees as tree
use Rattle.c_meaning.specs.Values.{promoted_value, value}
use Rattle.c_meaning.specs.declared.core_stmt.CoreStmt.TheVariants as stmt
use Rattle.c_values.specs.Stays.{extends_on, in_later, seen_stays}
use Rattle.c_check_decl.specs.Declares.{stmt_in}
use Rattle.c_check_decl.proofs.lemmas.StmtsStay.{stmt_later}
use Rattle.c_check_expr.specs.Keeps.{Keeps}
use Rattle.c_check_expr.specs.Kept.{keeps_itself, keeps_on}
use Rattle.c_check_expr.specs.Walks.{core}
use Rattle.c_units.specs.Bodies.{done, is_case_again, with_case, with_cases}
use Rattle.c_units.specs.Statements as node
use Rattle.c_stmt_parts.specs.BodiesSeen.{around_seen, body_in, within_in}
use Rattle.c_stmt_parts.proofs.lemmas.BodiesStay.{body_stays}
use Rattle.c_stmt_parts.proofs.lemmas.StatementLayers.{nothing_seen, nothing_within}
use Rattle.c_stmt_parts.specs.StatementsSeen.{block_seen, form_block, form_break, form_case, form_continue, form_default, form_do, form_expression, form_for, form_goto, form_if, form_if_else, form_label, form_return, form_switch, form_while, statement_seen}
use Rattle.c_stmt_parts.proofs.lemmas.BehindWalks.{do_stops, do_stops_behind, if_stops, if_stops_behind, if_stops_inside}
use Rattle.c_stmt_parts.proofs.lemmas.BlockWalks.{block_as, block_goes, block_stops, block_stops_second, compound_goes, is_more}
use Rattle.c_stmt_parts.proofs.lemmas.FormWalks.{break_walk, continue_walk, goto_walk, statement_as}
use Rattle.c_stmt_parts.proofs.lemmas.HeadWalks.{head_later, head_stays}
use Rattle.c_stmt_parts.proofs.lemmas.StatementLists.{StatementsGoing, statements_end, statements_on, statements_start, statements_stop}
use Rattle.c_stmt_parts.proofs.lemmas.StatementWalks.{kept_on, parts_stop, parts_stop_inside, walk_nothing}
use Rattle.c_check_stmt.specs.Ends.{Ends}
use Rattle.c_check_stmt.proofs.NodeEnds.{marked_ends}
use Rattle.c_check_stmt.proofs.PartEnds.{do_ended, else_ended, parts_ended}
use Rattle.c_check_stmt.proofs.Readiness.{out_of_list_memory, out_of_memory, ready_behind, ready_on, ready_with, same_code}
use Rattle.c_check_stmt.proofs.SpotParts.{case_at, default_at, for_at, if_at, labelled_at, switch_at, while_at}
use Rattle.c_check_stmt.proofs.+statements.Goals as goal

pub branches::if_-end_if-requires-clause-e : goal.branches::if_-end_if-requires-clause-e
branches::if_-end_if-requires-clause-e t c =
    in_later c.expression.new.types c.statement.new.types c.in_ok-code.ensures.keeps.extends c.in_ok-c.c c.in_ok-c.ensures.within

pub branches::if_-returns-in_err-c : goal.branches::if_-returns-in_err-c
branches::if_-returns-in_err-c t c =
    let a = c.args.types.now in
    let x = c.args.body.now in
    let k = if_at c.args.spot.now c.args.scopes.now a x c.args.s.now c.args.e.now in
    parts_stop k x c.from_residual.result c.from_residual.ensures.1 c.in_err-c.ensures

pub branches::if_-returns-in_err-code : goal.branches::if_-returns-in_err-code
branches::if_-returns-in_err-code t c =
    let a = c.args.types.now in
    let x = c.args.body.now in
    let k = if_at c.args.spot.now c.args.scopes.now a x c.args.s.now c.args.e.now in
    let first = c.in_ok-c.ensures in
    let b = c.expression.new.types in
    let started = body_stays a b first.keeps.extends x c.requires.ready.body in
    parts_stop_inside k x c.requires.ready.result first started c.statement.new.body c.from_residual-in_err-code.result c.from_residual-in_err-code.ensures.1 c.in_err-code.ensures

pub branches::if_-returns : goal.branches::if_-returns
branches::if_-returns t c =
    let a = c.args.types.now in
    let x = c.args.body.now in
    let k = if_at c.args.spot.now c.args.scopes.now a x c.args.s.now c.args.e.now in
    let first = c.in_ok-c.ensures in
    let b = c.expression.new.types in
    let started = body_stays a b first.keeps.extends x c.requires.ready.body in
    let second = c.in_ok-code.ensures in
    let d = c.statement.new.types in
    let y = c.statement.new.body in
    let same = seen_stays b d second.keeps.extends c.in_ok-c.c first.within in
    parts_ended k x c.requires.ready.result first started y c.in_ok-code.code second same y second.within.0 (tree.If (value (core d c.in_ok-c.c)) (stmt_in d c.in_ok-code.code) tree.Nothing) c.end_if.result refl
    (subst (λ n. Ends d c.args.spot.now.line (node.Test (core d c.in_ok-c.c)) (tree.If (value (core d c.in_ok-c.c)) (stmt_in d c.in_ok-code.code) n) c.end_if.new.types c.end_if.result) (nothing_seen d) c.end_if.ensures)

pub branches::if_-end_if-requires-clause-code : goal.branches::if_-end_if-requires-clause-code
branches::if_-end_if-requires-clause-code t c =
    c.in_ok-code.ensures.within.1

pub branches::if_-end_if-requires-clause-other : goal.branches::if_-end_if-requires-clause-other
branches::if_-end_if-requires-clause-other t c =
    nothing_within (length c.statement.new.types.forms)

pub loops::while_-end_while-requires-clause-e : goal.loops::while_-end_while-requires-clause-e
loops::while_-end_while-requires-clause-e t c =
    in_later c.expression.new.types c.statement.new.types c.in_ok-code.ensures.keeps.extends c.in_ok-c.c c.in_ok-c.ensures.within

pub loops::while_-returns-in_err-c : goal.loops::while_-returns-in_err-c
loops::while_-returns-in_err-c t c =
    let a = c.args.types.now in
    let x = c.args.body.now in
    let k = while_at c.args.spot.now c.args.scopes.now a x c.args.s.now c.args.e.now c.in_loop-inside.result c.in_loop-inside.ensures in
    parts_stop k x c.from_residual.result c.from_residual.ensures.1 c.in_err-c.ensures

pub loops::while_-returns-in_err-code : goal.loops::while_-returns-in_err-code
loops::while_-returns-in_err-code t c =
    let a = c.args.types.now in
    let x = c.args.body.now in
    let k = while_at c.args.spot.now c.args.scopes.now a x c.args.s.now c.args.e.now c.in_loop-inside.result c.in_loop-inside.ensures in
    let first = c.in_ok-c.ensures in
    let b = c.expression.new.types in
    let started = body_stays a b first.keeps.extends x c.requires.ready.body in
    parts_stop_inside k x c.requires.ready.result first started c.statement.new.body c.from_residual-in_err-code.result c.from_residual-in_err-code.ensures.1 c.in_err-code.ensures

pub loops::while_-returns : goal.loops::while_-returns
loops::while_-returns t c =
    let a = c.args.types.now in
    let x = c.args.body.now in
    let k = while_at c.args.spot.now c.args.scopes.now a x c.args.s.now c.args.e.now c.in_loop-inside.result c.in_loop-inside.ensures in
    let first = c.in_ok-c.ensures in
    let b = c.expression.new.types in
    let started = body_stays a b first.keeps.extends x c.requires.ready.body in
    let second = c.in_ok-code.ensures in
    let d = c.statement.new.types in
    let y = c.statement.new.body in
    let same = seen_stays b d second.keeps.extends c.in_ok-c.c first.within in
    parts_ended k x c.requires.ready.result first started y c.in_ok-code.code second same y second.within.0 _ c.end_while.result refl c.end_while.ensures

pub labelled::labelled-returns-in_err-number : goal.labelled::labelled-returns-in_err-number
labelled::labelled-returns-in_err-number t c =
    out_of_memory _ c.mark.new.self c.from_residual.result c.from_residual.ensures.1 (keeps_itself c.args.scopes.now c.args.types.now c.requires.symbols)

pub labelled::labelled-returns-in_err-code : goal.labelled::labelled-returns-in_err-code
labelled::labelled-returns-in_err-code t c =
    let a = c.args.types.now in
    let x = c.args.body.now in
    let k = labelled_at c.args.spot.now c.args.scopes.now a x c.args.s.now c.args.name.now in
    let z = c.mark.new.self in
    let first = walk_nothing c.args.scopes.now a c.requires.symbols in
    let started = c.in_ok-number.ensures.marked a in
    parts_stop_inside k z c.requires.ready.result first started c.statement.new.body c.from_residual-in_err-code.result c.from_residual-in_err-code.ensures.1 c.in_err-code.ensures

pub labelled::labelled-returns : goal.labelled::labelled-returns
labelled::labelled-returns t c =
    let a = c.args.types.now in
    let x = c.args.body.now in
    let k = labelled_at c.args.spot.now c.args.scopes.now a x c.args.s.now c.args.name.now in
    let z = c.mark.new.self in
    let first = walk_nothing c.args.scopes.now a c.requires.symbols in
    let started = c.in_ok-number.ensures.marked a in
    let second = c.in_ok-code.ensures in
    let d = c.statement.new.types in
    let y = c.statement.new.body in
    parts_ended k z c.requires.ready.result first started y c.in_ok-code.code second refl y second.within.0 (tree.Label x.marks (stmt_in d c.in_ok-code.code)) c.end_label.result refl
    (marked_ends d c.args.spot.now.line (λ m. node.Label m) c.end_label.result (c.is_again-again.ensures a) c.in_ok-number.ensures.number (c.end_label.ensures d second.within.1))

pub labelled::default-returns-in_err-number : goal.labelled::default-returns-in_err-number
labelled::default-returns-in_err-number t c =
    out_of_memory _ c.mark_default.new.self c.from_residual.result c.from_residual.ensures.1 (keeps_itself c.args.scopes.now c.args.types.now c.requires.symbols)

pub labelled::default-returns-in_err-code : goal.labelled::default-returns-in_err-code
labelled::default-returns-in_err-code t c =
    let a = c.args.types.now in
    let x = c.args.body.now in
    let k = default_at c.args.spot.now c.args.scopes.now a x c.args.s.now in
    let z = c.mark_default.new.self in
    let first = walk_nothing c.args.scopes.now a c.requires.symbols in
    let started = c.in_ok-number.ensures.noted a in
    parts_stop_inside k z c.requires.ready.result first started c.statement.new.body c.from_residual-in_err-code.result c.from_residual-in_err-code.ensures.1 c.in_err-code.ensures

pub labelled::default-returns : goal.labelled::default-returns
labelled::default-returns t c =
    let a = c.args.types.now in
    let x = c.args.body.now in
    let k = default_at c.args.spot.now c.args.scopes.now a x c.args.s.now in
    let z = c.mark_default.new.self in
    let first = walk_nothing c.args.scopes.now a c.requires.symbols in
    let started = c.in_ok-number.ensures.noted a in
    let second = c.in_ok-code.ensures in
    let d = c.statement.new.types in
    let y = c.statement.new.body in
    parts_ended k z c.requires.ready.result first started y c.in_ok-code.code second refl y second.within.0 (tree.Label x.marks (stmt_in d c.in_ok-code.code)) c.end_default.result refl
    (marked_ends d c.args.spot.now.line (λ m. node.Default (around_seen c.args.spot.now.around) m) c.end_default.result (c.has_default-again.ensures a) c.in_ok-number.ensures.number (c.end_default.ensures d second.within.1))

pub labelled::case-end_case-requires-clause-e : goal.labelled::case-end_case-requires-clause-e
labelled::case-end_case-requires-clause-e t c =
    in_later c.expression.new.types c.statement.new.types c.in_ok-code.ensures.keeps.extends c.in_ok-c.c c.in_ok-c.ensures.within

pub labelled::case-returns-in_err-c : goal.labelled::case-returns-in_err-c
labelled::case-returns-in_err-c t c =
    let a = c.args.types.now in
    let x = c.args.body.now in
    let k = case_at c.args.spot.now c.args.scopes.now a x c.args.s.now c.args.e.now in
    parts_stop k x c.from_residual.result c.from_residual.ensures.1 c.in_err-c.ensures

pub labelled::case-returns-in_err-number : goal.labelled::case-returns-in_err-number
labelled::case-returns-in_err-number t c =
    out_of_memory _ c.mark_case.new.self c.from_residual-in_err-number.result c.from_residual-in_err-number.ensures.1 c.in_ok-c.ensures.keeps

pub labelled::case-returns-in_err-code : goal.labelled::case-returns-in_err-code
labelled::case-returns-in_err-code t c =
    let a = c.args.types.now in
    let x = c.args.body.now in
    let k = case_at c.args.spot.now c.args.scopes.now a x c.args.s.now c.args.e.now in
    let first = c.in_ok-c.ensures in
    let b = c.expression.new.types in
    let v = core b c.in_ok-c.c in
    let z = c.mark_case.new.self in
    let started = c.in_ok-number.ensures.noted b v (sym c.number_of-value.ensures) ∙ ap (λ u. with_case (around_seen c.args.spot.now.around) u v) (body_stays a b first.keeps.extends x c.requires.ready.body) in
    parts_stop_inside k z c.requires.ready.result first started c.statement.new.body c.from_residual-in_err-code.result c.from_residual-in_err-code.ensures.1 c.in_err-code.ensures

pub labelled::case-returns : goal.labelled::case-returns
labelled::case-returns t c =
    let a = c.args.types.now in
    let x = c.args.body.now in
    let k = case_at c.args.spot.now c.args.scopes.now a x c.args.s.now c.args.e.now in
    let first = c.in_ok-c.ensures in
    let b = c.expression.new.types in
    let v = core b c.in_ok-c.c in
    let z = c.mark_case.new.self in
    let started = c.in_ok-number.ensures.noted b v (sym c.number_of-value.ensures) ∙ ap (λ u. with_case (around_seen c.args.spot.now.around) u v) (body_stays a b first.keeps.extends x c.requires.ready.body) in
    let second = c.in_ok-code.ensures in
    let d = c.statement.new.types in
    let y = c.statement.new.body in
    let same = seen_stays b d second.keeps.extends c.in_ok-c.c first.within in
    let again = c.has_case-again.ensures b v (sym c.number_of-value.ensures) ∙ ap (λ u. is_case_again (around_seen c.args.spot.now.around) u v) (body_stays a b first.keeps.extends x c.requires.ready.body) ∙ ap (is_case_again (around_seen c.args.spot.now.around) (body_in a x)) (sym same) in
    parts_ended k z c.requires.ready.result first started y c.in_ok-code.code second same y second.within.0 (tree.Label x.marks (stmt_in d c.in_ok-code.code)) c.end_case.result refl
    (marked_ends d c.args.spot.now.line (λ m. node.Case (core d c.in_ok-c.c) (around_seen c.args.spot.now.around) m) c.end_case.result again c.in_ok-number.ensures.number c.end_case.ensures)

pub branches::switch-end_switch-requires-clause-e : goal.branches::switch-end_switch-requires-clause-e
branches::switch-end_switch-requires-clause-e t c =
    in_later c.expression.new.types c.statement.new.types c.in_ok-code.ensures.keeps.extends c.in_ok-c.c c.in_ok-c.ensures.within

pub branches::switch-returns-in_err-c : goal.branches::switch-returns-in_err-c
branches::switch-returns-in_err-c t c =
    let a = c.args.types.now in
    let x = c.args.body.now in
    let k = switch_at c.args.spot.now c.args.scopes.now a x c.args.s.now c.args.e.now c.in_switch-inside.result c.in_switch-inside.ensures in
    parts_stop k x c.from_residual.result c.from_residual.ensures.1 c.in_err-c.ensures

pub branches::switch-returns-in_err-code : goal.branches::switch-returns-in_err-code
branches::switch-returns-in_err-code t c =
    let a = c.args.types.now in
    let x = c.args.body.now in
    let k = switch_at c.args.spot.now c.args.scopes.now a x c.args.s.now c.args.e.now c.in_switch-inside.result c.in_switch-inside.ensures in
    let first = c.in_ok-c.ensures in
    let b = c.expression.new.types in
    let z = c.replace_noted-outer.new.body in
    let started = c.replace_noted-outer.ensures.noted b ∙ ap (λ cs. with_cases cs None (body_in b x)) c.new.ensures ∙ ap (with_cases [] None) (body_stays a b first.keeps.extends x c.requires.ready.body) in
    parts_stop_inside k z c.requires.ready.result first started c.statement.new.body c.from_residual-in_err-code.result c.from_residual-in_err-code.ensures.1 c.in_err-code.ensures

pub branches::switch-returns : goal.branches::switch-returns
branches::switch-returns t c =
    let a = c.args.types.now in
    let x = c.args.body.now in
    let k = switch_at c.args.spot.now c.args.scopes.now a x c.args.s.now c.args.e.now c.in_switch-inside.result c.in_switch-inside.ensures in
    let first = c.in_ok-c.ensures in
    let b = c.expression.new.types in
    let z = c.replace_noted-outer.new.body in
    let started = c.replace_noted-outer.ensures.noted b ∙ ap (λ cs. with_cases cs None (body_in b x)) c.new.ensures ∙ ap (with_cases [] None) (body_stays a b first.keeps.extends x c.requires.ready.body) in
    let second = c.in_ok-code.ensures in
    let d = c.statement.new.types in
    let y = c.statement.new.body in
    let w = c.replace_noted-own.new.body in
    let own = c.replace_noted-own.ensures in
    let outer = c.replace_noted-outer.ensures in
    let same = seen_stays b d second.keeps.extends c.in_ok-c.c first.within in
    let value = promoted_value (value (core d c.in_ok-c.c)) in
    parts_ended k z c.requires.ready.result first started y c.in_ok-code.code second same w (own.within (length d.forms) second.within.0) (tree.Switch value y.cases y.default (stmt_in d c.in_ok-code.code)) c.end_switch.result
    (ap (λ u. done u (tree.Switch value y.cases y.default (stmt_in d c.in_ok-code.code))) (sym (own.noted d ∙ rw (outer.cases, outer.default) refl)))
    (subst (λ n. Ends d c.args.spot.now.line (node.Switch (core d c.in_ok-c.c)) n c.end_switch.new.types c.end_switch.result) (rw (own.cases, own.default) refl) c.end_switch.ensures)

pub loops::for_-end_for-requires-clause-head : goal.loops::for_-end_for-requires-clause-head
loops::for_-end_for-requires-clause-head t c =
    head_later c.head.new.types c.statement.new.types c.in_ok-code.ensures.keeps.extends c.in_ok-head.head c.in_ok-head.ensures.within

pub loops::for_-returns-in_err-head : goal.loops::for_-returns-in_err-head
loops::for_-returns-in_err-head t c =
    let a = c.args.types.now in
    let x = c.args.body.now in
    let k = for_at c.args.spot.now c.args.scopes.now a x c.args.s.now c.in_loop-inside.result c.args.parts.now.first c.args.parts.now.test c.args.parts.now.last c.in_loop-inside.ensures in
    parts_stop k x c.from_residual.result c.from_residual.ensures.1 c.in_err-head.ensures

pub loops::for_-returns-in_err-code : goal.loops::for_-returns-in_err-code
loops::for_-returns-in_err-code t c =
    let a = c.args.types.now in
    let x = c.args.body.now in
    let k = for_at c.args.spot.now c.args.scopes.now a x c.args.s.now c.in_loop-inside.result c.args.parts.now.first c.args.parts.now.test c.args.parts.now.last c.in_loop-inside.ensures in
    let first = c.in_ok-head.ensures in
    let b = c.head.new.types in
    let started = body_stays a b first.keeps.extends x c.requires.ready.body in
    parts_stop_inside k x c.requires.ready.result first started c.statement.new.body c.from_residual-in_err-code.result c.from_residual-in_err-code.ensures.1 c.in_err-code.ensures

pub loops::for_-returns : goal.loops::for_-returns
loops::for_-returns t c =
    let a = c.args.types.now in
    let x = c.args.body.now in
    let k = for_at c.args.spot.now c.args.scopes.now a x c.args.s.now c.in_loop-inside.result c.args.parts.now.first c.args.parts.now.test c.args.parts.now.last c.in_loop-inside.ensures in
    let first = c.in_ok-head.ensures in
    let b = c.head.new.types in
    let started = body_stays a b first.keeps.extends x c.requires.ready.body in
    let second = c.in_ok-code.ensures in
    let d = c.statement.new.types in
    let y = c.statement.new.body in
    let same = head_stays b d second.keeps.extends c.in_ok-head.head first.within in
    parts_ended k x c.requires.ready.result first started y c.in_ok-code.code second same y second.within.0 _ c.end_for.result refl c.end_for.ensures

pub loops::do_-end_do-requires-clause-code : goal.loops::do_-end_do-requires-clause-code
loops::do_-end_do-requires-clause-code t c =
    stmt_later c.statement.new.types c.expression.new.types c.in_ok-c.ensures.keeps.extends (stmt_of c.in_ok-code.code) c.in_ok-code.ensures.within.1

pub loops::do_-returns-in_err-code : goal.loops::do_-returns-in_err-code
loops::do_-returns-in_err-code t c =
    do_stops c.args.spot.now.within.now (around_seen c.args.spot.now.around) (around_seen c.in_loop-inside.result) c.in_loop-inside.ensures c.args.scopes.now c.args.types.now c.args.body.now c.args.spot.now.line (expr_seen c.args.e.now) (statement_seen c.args.s.now) c.requires.symbols c.requires.ready.result c.statement.new.body c.from_residual.result c.from_residual.ensures.1 c.in_err-code.ensures

pub loops::do_-returns-in_err-c : goal.loops::do_-returns-in_err-c
loops::do_-returns-in_err-c t c =
    do_stops_behind c.args.spot.now.within.now (around_seen c.args.spot.now.around) (around_seen c.in_loop-inside.result) c.in_loop-inside.ensures c.args.scopes.now c.args.types.now c.args.body.now c.args.spot.now.line (expr_seen c.args.e.now) (statement_seen c.args.s.now) c.requires.symbols c.requires.ready.result c.statement.new.body c.in_ok-code.code c.in_ok-code.ensures c.from_residual-in_err-c.result c.from_residual-in_err-c.ensures.1 c.in_err-c.ensures

pub loops::do_-returns : goal.loops::do_-returns
loops::do_-returns t c =
    do_ended c.args.spot.now.within.now (around_seen c.args.spot.now.around) (around_seen c.in_loop-inside.result) c.in_loop-inside.ensures c.args.scopes.now c.args.types.now c.args.body.now c.args.spot.now.line (expr_seen c.args.e.now) (statement_seen c.args.s.now) c.requires.symbols c.requires.ready.result c.statement.new.body c.in_ok-code.code c.in_ok-code.ensures c.in_ok-c.ensures c.end_do.result c.end_do.ensures

pub branches::if_else-end_if-requires-clause-e : goal.branches::if_else-end_if-requires-clause-e
branches::if_else-end_if-requires-clause-e t c =
    in_later c.expression.new.types c.statement-2.new.types (extends_on c.expression.new.types c.statement.new.types c.statement-2.new.types c.in_ok-code.ensures.keeps.extends c.in_ok-behind.ensures.keeps.extends) c.in_ok-c.c c.in_ok-c.ensures.within

pub branches::if_else-end_if-requires-clause-code : goal.branches::if_else-end_if-requires-clause-code
branches::if_else-end_if-requires-clause-code t c =
    stmt_later c.statement.new.types c.statement-2.new.types c.in_ok-behind.ensures.keeps.extends (stmt_of c.in_ok-code.code) c.in_ok-code.ensures.within.1

pub branches::if_else-end_if-requires-clause-other : goal.branches::if_else-end_if-requires-clause-other
branches::if_else-end_if-requires-clause-other t c =
    c.in_ok-behind.ensures.within.1

pub branches::if_else-returns-in_err-c : goal.branches::if_else-returns-in_err-c
branches::if_else-returns-in_err-c t c =
    if_stops c.args.spot.now.within.now (around_seen c.args.spot.now.around) c.args.scopes.now c.args.types.now c.args.body.now c.args.spot.now.line (expr_seen c.args.e.now) (statement_seen c.args.both.0.now) (statement_seen c.args.both.1.now) c.requires.ready.result c.requires.ready.body c.from_residual.result c.from_residual.ensures.1 c.in_err-c.ensures

pub branches::if_else-returns-in_err-code : goal.branches::if_else-returns-in_err-code
branches::if_else-returns-in_err-code t c =
    if_stops_inside c.args.spot.now.within.now (around_seen c.args.spot.now.around) c.args.scopes.now c.args.types.now c.args.body.now c.args.spot.now.line (expr_seen c.args.e.now) (statement_seen c.args.both.0.now) (statement_seen c.args.both.1.now) c.requires.ready.result c.requires.ready.body c.in_ok-c.ensures c.statement.new.body c.from_residual-in_err-code.result c.from_residual-in_err-code.ensures.1 c.in_err-code.ensures

pub branches::if_else-returns-in_err-behind : goal.branches::if_else-returns-in_err-behind
branches::if_else-returns-in_err-behind t c =
    if_stops_behind c.args.spot.now.within.now (around_seen c.args.spot.now.around) c.args.scopes.now c.args.types.now c.args.body.now c.args.spot.now.line (expr_seen c.args.e.now) (statement_seen c.args.both.0.now) (statement_seen c.args.both.1.now) c.requires.ready.result c.requires.ready.body c.in_ok-c.ensures c.statement.new.body c.in_ok-code.code c.in_ok-code.ensures c.statement-2.new.body c.from_residual-in_err-behind.result c.from_residual-in_err-behind.ensures.1 c.in_err-behind.ensures

pub branches::if_else-returns : goal.branches::if_else-returns
branches::if_else-returns t c =
    else_ended c.args.spot.now.within.now (around_seen c.args.spot.now.around) c.args.scopes.now c.args.types.now c.args.body.now c.args.spot.now.line (expr_seen c.args.e.now) (statement_seen c.args.both.0.now) (statement_seen c.args.both.1.now) c.requires.ready.result c.requires.ready.body c.in_ok-c.ensures c.statement.new.body c.in_ok-code.code c.in_ok-code.ensures c.statement-2.new.body c.in_ok-behind.behind c.in_ok-behind.ensures c.end_if.result c.end_if.ensures

pub statements::block-returns-in_err-what : goal.statements::block-returns-in_err-what
statements::block-returns-in_err-what t c =
    block_as (within_in c.args.types.now c.args.within.now) (around_seen c.args.around) (body_in c.args.types.now c.args.body.now) c.args.body.now c.from_residual.result c.args.b.now
    (block_stops c.args.within.now (around_seen c.args.around) c.args.scopes.now c.args.types.now c.args.body.now (out-Block c.args.b.now).line (out-Block c.args.b.now).declarations (out-Block c.args.b.now).statements c.args.body.now c.from_residual.result c.from_residual.ensures.1 (rw c.as_slice.ensures at c.in_err-what.ensures))

pub statements::block-returns-in_err-fills : goal.statements::block-returns-in_err-fills
statements::block-returns-in_err-fills t c =
    out_of_memory _ c.declare.new.self c.from_residual-in_err-fills.result c.from_residual-in_err-fills.ensures.1 c.in_ok-what.ensures.keeps

pub statements::block-returns-in_err-codes : goal.statements::block-returns-in_err-codes
statements::block-returns-in_err-codes t c =
    block_as (within_in c.args.types.now c.args.within.now) (around_seen c.args.around) (body_in c.args.types.now c.args.body.now) c.statements.new.body c.from_residual-in_err-codes.result c.args.b.now
    (block_stops_second c.args.within.now (around_seen c.args.around) c.args.scopes.now c.args.types.now c.args.body.now (out-Block c.args.b.now).line (out-Block c.args.b.now).declarations (out-Block c.args.b.now).statements c.in_ok-what.what c.declare.new.self c.requires.ready.result c.requires.ready.body (rw c.as_slice.ensures at c.in_ok-what.ensures) (c.in_ok-fills.ensures.declared c.declarations.new.types) c.statements.new.body c.from_residual-in_err-codes.result c.from_residual-in_err-codes.ensures.1 (rw c.as_slice-2.ensures at c.in_err-codes.ensures))

pub statements::block-returns-in_err-end_block : goal.statements::block-returns-in_err-end_block
statements::block-returns-in_err-end_block t c =
    out_of_memory _ c.statements.new.body c.from_residual-in_err-end_block.result c.from_residual-in_err-end_block.ensures.1 (kept_on c.in_ok-what.ensures c.in_ok-codes.ensures)

pub statements::block-returns : goal.statements::block-returns
statements::block-returns t c =
    same_code _ c.statements.new.body c.in_ok-end_block.ensures
    (block_as (within_in c.args.types.now c.args.within.now) (around_seen c.args.around) (body_in c.args.types.now c.args.body.now) c.statements.new.body (Ok (stmt.Block c.len-start.result c.len-count.result (c.in_ok-fills.fills ++ c.in_ok-codes.codes))) c.args.b.now
    (block_goes c.args.within.now (around_seen c.args.around) c.args.scopes.now c.args.types.now c.args.body.now (out-Block c.args.b.now).line (out-Block c.args.b.now).declarations (out-Block c.args.b.now).statements c.in_ok-what.what c.declare.new.self c.requires.ready.result c.requires.ready.body (rw c.as_slice.ensures at c.in_ok-what.ensures) (c.in_ok-fills.ensures.declared c.declarations.new.types) c.statements.new.body c.len-start.result c.len-count.result c.in_ok-codes.codes (c.in_ok-fills.fills ++ c.in_ok-codes.codes) (rw c.as_slice-2.ensures at c.in_ok-codes.ensures)
    c.len-start.ensures c.len-count.ensures (ap (λ fs. fs ++ c.in_ok-codes.codes) c.in_ok-fills.ensures.fills)))

pub statements::compound-leave-requires : goal.statements::compound-leave-requires
statements::compound-leave-requires t c =
    is_more c.args.scopes.now.outer c.block-code.new.scopes.outer c.args.scopes.now.inner (c.block-code.ensures.keeps.outer ∙ c.in_ok-enter.ensures.outer)

pub statements::compound-returns-in_err-enter : goal.statements::compound-returns-in_err-enter
statements::compound-returns-in_err-enter t c =
    out_of_memory _ c.args.body.now c.from_residual.result c.from_residual.ensures.1 (subst (λ u. Keeps c.args.scopes.now c.args.types.now u c.args.types.now) (sym c.in_err-enter.ensures.err) (keeps_itself c.args.scopes.now c.args.types.now c.requires.symbols))

pub statements::compound-returns : goal.statements::compound-returns
statements::compound-returns t c =
    compound_goes c.args.scopes.now c.enter.new.self c.block-code.new.scopes c.leave.new.self c.args.types.now c.block-code.new.types c.in_ok-enter.ensures.outer c.in_ok-enter.ensures.inner c.in_ok-enter.ensures.links c.in_ok-enter.ensures.symbols c.leave.ensures.scopes c.leave.ensures.links c.leave.ensures.symbols
    (within_in c.args.types.now c.args.spot.now.within.now) (around_seen c.args.spot.now.around) (body_in c.args.types.now c.args.body.now) c.block-code.new.body c.args.spot.now.line (block_seen c.args.b.now) c.block-code.result c.block-code.ensures

pub statements::statements-returns-in_err-codes : goal.statements::statements-returns-in_err-codes
statements::statements-returns-in_err-codes t c =
    out_of_list_memory _ c.args.body.now c.from_residual.result c.from_residual.ensures.1 (keeps_itself c.args.scopes.now c.args.types.now c.requires.symbols)

pub statements::statements-loop-s-init : goal.statements::statements-loop-s-init
statements::statements-loop-s-init t c =
    record {
      going = subst (λ cs. StatementsGoing c.args.within.now (around_seen c.args.around) c.args.scopes.now c.args.types.now c.args.body.now c.args.list.now c.args.scopes.now c.args.types.now c.args.body.now cs c.args.list.now) (sym c.in_ok-codes.ensures) (statements_start c.args.within.now (around_seen c.args.around) c.args.scopes.now c.args.types.now c.args.body.now c.args.list.now c.requires.symbols c.requires.ready.body);
      kept = keeps_itself c.args.scopes.now c.args.types.now c.requires.symbols;
      ready = c.requires.ready;
    }

pub statements::statements-returns-in_err-code : goal.statements::statements-returns-in_err-code
statements::statements-returns-in_err-code t c =
    statements_stop c.args.within.now (around_seen c.args.around) c.args.scopes.now c.args.types.now c.args.body.now c.args.list.now c.loop-s.scopes c.loop-s.types c.loop-s.body c.loop-s.codes c.loop-s.s-index c.s-item.result (omega arith) c.s-item.is c.loop-s.invariant.going c.requires.ready.result c.loop-s.invariant.kept c.statement.new.scopes c.statement.new.types c.statement.new.body c.in_err-code.field-0.0 c.from_residual-in_err-code.result c.from_residual-in_err-code.ensures.1 c.in_err-code.ensures

pub statements::statements-returns-in_err-push : goal.statements::statements-returns-in_err-push
statements::statements-returns-in_err-push t c =
    out_of_list_memory _ c.statement.new.body c.from_residual-in_err-push.result c.from_residual-in_err-push.ensures.1 (keeps_on c.args.scopes.now c.loop-s.scopes c.statement.new.scopes c.args.types.now c.loop-s.types c.statement.new.types c.loop-s.invariant.kept c.in_ok-code.ensures.keeps)

pub statements::statements-loop-s-preserved : goal.statements::statements-loop-s-preserved
statements::statements-loop-s-preserved t c =
    record {
      going = statements_on c.args.within.now (around_seen c.args.around) c.args.scopes.now c.args.types.now c.args.body.now c.args.list.now c.loop-s.scopes c.loop-s.types c.loop-s.body c.loop-s.codes c.loop-s.s-index c.s-item.result (omega arith) c.s-item.is c.loop-s.invariant.going c.requires.ready.result c.loop-s.invariant.kept c.statement.new.scopes c.statement.new.types c.statement.new.body c.in_ok-code.code c.push.new.self c.in_ok-push.ensures.ok c.in_ok-code.ensures;
      kept = keeps_on c.args.scopes.now c.loop-s.scopes c.statement.new.scopes c.args.types.now c.loop-s.types c.statement.new.types c.loop-s.invariant.kept c.in_ok-code.ensures.keeps;
      ready = ready_behind c.statement.new.body c.in_ok-code.code _ c.loop-s.invariant.ready c.in_ok-code.ensures;
    }

pub statements::statements-returns : goal.statements::statements-returns
statements::statements-returns t c =
    statements_end c.args.within.now (around_seen c.args.around) c.args.scopes.now c.args.types.now c.args.body.now c.args.list.now c.loop-s.scopes c.loop-s.types c.loop-s.body c.loop-s.codes c.loop-s.s-index (omega arith) c.loop-s.invariant.going

pub statements::statement-returns-in-Label : goal.statements::statement-returns-in-Label
statements::statement-returns-in-Label t c =
    let l = (out-Statement c.args.s.now).line in
    statement_as (within_in c.args.types.now c.args.within.now) (around_seen c.args.around) (body_in c.args.types.now c.args.body.now) c.labelled.new.body c.labelled.result c.args.s.now _ _ c.in-Label.is (cc (form_label c.in-Label.name c.in-Label.inner l)) c.labelled.ensures

pub statements::statement-returns-in-Case : goal.statements::statement-returns-in-Case
statements::statement-returns-in-Case t c =
    let l = (out-Statement c.args.s.now).line in
    statement_as (within_in c.args.types.now c.args.within.now) (around_seen c.args.around) (body_in c.args.types.now c.args.body.now) c.case.new.body c.case.result c.args.s.now _ _ c.in-Case.is (cc (form_case c.in-Case.e c.in-Case.inner l)) c.case.ensures

pub statements::statement-returns-in-Default : goal.statements::statement-returns-in-Default
statements::statement-returns-in-Default t c =
    let l = (out-Statement c.args.s.now).line in
    statement_as (within_in c.args.types.now c.args.within.now) (around_seen c.args.around) (body_in c.args.types.now c.args.body.now) c.default.new.body c.default.result c.args.s.now _ _ c.in-Default.is (cc (form_default c.in-Default.inner l)) c.default.ensures

pub statements::statement-returns-in-Expression : goal.statements::statement-returns-in-Expression
statements::statement-returns-in-Expression t c =
    let l = (out-Statement c.args.s.now).line in
    statement_as (within_in c.args.types.now c.args.within.now) (around_seen c.args.around) (body_in c.args.types.now c.args.body.now) c.evaluate.new.body c.evaluate.result c.args.s.now _ _ c.in-Expression.is (cc (form_expression c.in-Expression.e l)) c.evaluate.ensures

pub statements::statement-returns-in-Block : goal.statements::statement-returns-in-Block
statements::statement-returns-in-Block t c =
    let l = (out-Statement c.args.s.now).line in
    statement_as (within_in c.args.types.now c.args.within.now) (around_seen c.args.around) (body_in c.args.types.now c.args.body.now) c.compound.new.body c.compound.result c.args.s.now _ _ c.in-Block.is (cc (form_block c.in-Block.block l)) c.compound.ensures

pub statements::statement-returns-in-Switch : goal.statements::statement-returns-in-Switch
statements::statement-returns-in-Switch t c =
    let l = (out-Statement c.args.s.now).line in
    statement_as (within_in c.args.types.now c.args.within.now) (around_seen c.args.around) (body_in c.args.types.now c.args.body.now) c.switch.new.body c.switch.result c.args.s.now _ _ c.in-Switch.is (cc (form_switch c.in-Switch.e c.in-Switch.inner l)) c.switch.ensures

pub statements::statement-returns-in-While : goal.statements::statement-returns-in-While
statements::statement-returns-in-While t c =
    let l = (out-Statement c.args.s.now).line in
    statement_as (within_in c.args.types.now c.args.within.now) (around_seen c.args.around) (body_in c.args.types.now c.args.body.now) c.while_.new.body c.while_.result c.args.s.now _ _ c.in-While.is (cc (form_while c.in-While.e c.in-While.inner l)) c.while_.ensures

pub statements::statement-returns-in-Do : goal.statements::statement-returns-in-Do
statements::statement-returns-in-Do t c =
    let l = (out-Statement c.args.s.now).line in
    statement_as (within_in c.args.types.now c.args.within.now) (around_seen c.args.around) (body_in c.args.types.now c.args.body.now) c.do_.new.body c.do_.result c.args.s.now _ _ c.in-Do.is (cc (form_do c.in-Do.inner c.in-Do.e l)) c.do_.ensures

pub statements::statement-returns-in-For : goal.statements::statement-returns-in-For
statements::statement-returns-in-For t c =
    let l = (out-Statement c.args.s.now).line in
    statement_as (within_in c.args.types.now c.args.within.now) (around_seen c.args.around) (body_in c.args.types.now c.args.body.now) c.for_.new.body c.for_.result c.args.s.now _ _ c.in-For.is (cc (form_for c.in-For.head c.in-For.inner l)) c.for_.ensures

pub statements::statement-returns-in-Return : goal.statements::statement-returns-in-Return
statements::statement-returns-in-Return t c =
    let l = (out-Statement c.args.s.now).line in
    statement_as (within_in c.args.types.now c.args.within.now) (around_seen c.args.around) (body_in c.args.types.now c.args.body.now) c.return_.new.body c.return_.result c.args.s.now _ _ c.in-Return.is (cc (form_return c.in-Return.e l)) c.return_.ensures

pub statements::statement-returns-in-Continue : goal.statements::statement-returns-in-Continue
statements::statement-returns-in-Continue t c =
    let l = (out-Statement c.args.s.now).line in
    statement_as (within_in c.args.types.now c.args.within.now) (around_seen c.args.around) (body_in c.args.types.now c.args.body.now) c.args.body.now c.continue_.result c.args.s.now _ _ c.in-Continue.is (cc (form_continue l)) (continue_walk (within_in c.args.types.now c.args.within.now) (around_seen c.args.around) c.args.scopes.now c.args.types.now c.args.body.now l c.requires.symbols c.requires.ready.body c.continue_.result c.continue_.ensures.ok c.continue_.ensures.sound c.continue_.ensures.told)

pub statements::statement-returns-in-Break : goal.statements::statement-returns-in-Break
statements::statement-returns-in-Break t c =
    let l = (out-Statement c.args.s.now).line in
    statement_as (within_in c.args.types.now c.args.within.now) (around_seen c.args.around) (body_in c.args.types.now c.args.body.now) c.args.body.now c.break_.result c.args.s.now _ _ c.in-Break.is (cc (form_break l)) (break_walk (within_in c.args.types.now c.args.within.now) (around_seen c.args.around) c.args.scopes.now c.args.types.now c.args.body.now l c.requires.symbols c.requires.ready.body c.break_.result c.break_.ensures.ok c.break_.ensures.sound c.break_.ensures.told)

pub statements::statement-returns-in_ok-goto-in-Goto : goal.statements::statement-returns-in_ok-goto-in-Goto
statements::statement-returns-in_ok-goto-in-Goto t c =
    let l = (out-Statement c.args.s.now).line in
    statement_as (within_in c.args.types.now c.args.within.now) (around_seen c.args.around) (body_in c.args.types.now c.args.body.now) c.goto.new.body (Ok c.in_ok-goto-in-Goto.field-0) c.args.s.now _ _ c.in-Goto.is (cc (form_goto c.in-Goto.name l)) (goto_walk c.args.within.now (around_seen c.args.around) c.args.scopes.now c.args.types.now c.args.body.now c.goto.new.body l c.as_slice-in-Goto.result.now c.in_ok-goto-in-Goto.field-0 c.requires.symbols (c.in_ok-goto-in-Goto.ensures.within (length c.args.types.now.forms) c.requires.ready.body) c.in_ok-goto-in-Goto.ensures.ok)

pub statements::statement-returns-in_err-goto-in-Goto : goal.statements::statement-returns-in_err-goto-in-Goto
statements::statement-returns-in_err-goto-in-Goto t c =
    out_of_memory _ c.goto.new.body c.from_residual.result c.from_residual.ensures.1 (keeps_itself c.args.scopes.now c.args.types.now c.requires.symbols)

pub branches::if_-statement-requires : goal.branches::if_-statement-requires
branches::if_-statement-requires t c = (omega arith, (c.in_ok-c.ensures.keeps.symbols, ready_on c.requires.ready c.in_ok-c.ensures.keeps))

pub branches::if_else-statement-requires : goal.branches::if_else-statement-requires
branches::if_else-statement-requires t c = (omega arith, (c.in_ok-c.ensures.keeps.symbols, ready_on c.requires.ready c.in_ok-c.ensures.keeps))

pub loops::while_-statement-requires : goal.loops::while_-statement-requires
loops::while_-statement-requires t c = (omega arith, (c.in_ok-c.ensures.keeps.symbols, ready_on c.requires.ready c.in_ok-c.ensures.keeps))

pub loops::for_-statement-requires : goal.loops::for_-statement-requires
loops::for_-statement-requires t c = (omega arith, (c.in_ok-head.ensures.keeps.symbols, ready_on c.requires.ready c.in_ok-head.ensures.keeps))

pub labelled::labelled-statement-requires : goal.labelled::labelled-statement-requires
labelled::labelled-statement-requires t c = (omega arith, (c.requires.symbols, ready_with c.mark.new.self c.requires.ready (c.in_ok-number.ensures.within (length c.args.types.now.forms) c.requires.ready.body)))

pub labelled::default-statement-requires : goal.labelled::default-statement-requires
labelled::default-statement-requires t c = (omega arith, (c.requires.symbols, ready_with c.mark_default.new.self c.requires.ready (c.in_ok-number.ensures.within (length c.args.types.now.forms) c.requires.ready.body)))

pub labelled::case-statement-requires : goal.labelled::case-statement-requires
labelled::case-statement-requires t c =
    let r = ready_on c.requires.ready c.in_ok-c.ensures.keeps in
    (omega arith, (c.in_ok-c.ensures.keeps.symbols, ready_with c.mark_case.new.self r (c.in_ok-number.ensures.within (length c.expression.new.types.forms) r.body)))

pub branches::switch-statement-requires : goal.branches::switch-statement-requires
branches::switch-statement-requires t c =
    let r = ready_on c.requires.ready c.in_ok-c.ensures.keeps in
    (omega arith, (c.in_ok-c.ensures.keeps.symbols, ready_with c.replace_noted-outer.new.body r (c.replace_noted-outer.ensures.within (length c.expression.new.types.forms) r.body)))

pub statements::block-stays_ready-requires : goal.statements::block-stays_ready-requires
statements::block-stays_ready-requires t c =
    let r = ready_on c.requires.ready c.in_ok-what.ensures.keeps in
    ready_with c.declare.new.self r (c.in_ok-fills.ensures.within (length c.declarations.new.types.forms) r.body c.in_ok-what.ensures.within)

pub statements::statement-returns-in-Some : goal.statements::statement-returns-in-Some
statements::statement-returns-in-Some t c =
    let l = (out-Statement c.args.s.now).line in
    statement_as (within_in c.args.types.now c.args.within.now) (around_seen c.args.around) (body_in c.args.types.now c.args.body.now) c.if_else.new.body c.if_else.result c.args.s.now (form.If c.in-If.e c.in-If.inner (Some c.in-Some.other)) _ (c.in-If.is ∙ ap (form.If c.in-If.e c.in-If.inner) c.in-Some.is) (cc (form_if_else c.in-If.e c.in-If.inner c.in-Some.other l)) c.if_else.ensures

pub statements::statement-returns-in-None : goal.statements::statement-returns-in-None
statements::statement-returns-in-None t c =
    let l = (out-Statement c.args.s.now).line in
    statement_as (within_in c.args.types.now c.args.within.now) (around_seen c.args.around) (body_in c.args.types.now c.args.body.now) c.if_.new.body c.if_.result c.args.s.now (form.If c.in-If.e c.in-If.inner None) _ (c.in-If.is ∙ ap (form.If c.in-If.e c.in-If.inner) c.in-None.is) (cc (form_if c.in-If.e c.in-If.inner l)) c.if_.ensures
