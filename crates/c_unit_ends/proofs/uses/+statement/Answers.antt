use Rattle.std.proofs.Common.{List, ap, map, refl, ◌++◌, ◌∙◌}
use Rattle.c_meaning.specs.declared.core_stmt.CoreStmt.{CoreStmt}
use Rattle.c_meaning.specs.StmtTrees.{stmt_of, stmts_of}
use Rattle.c_unit_ends.specs.NameFaults.{missing_in}
use Rattle.c_unit_ends.specs.Uses.{some_uses, stmt_uses, stmts_uses, uses}
use Rattle.c_unit_ends.proofs.Missing.{missing_as, missing_both, missing_inside, missing_more}
use Rattle.c_unit_ends.proofs.Shapes.{is_do, is_for, is_if, is_switch, is_while}
use Rattle.c_meaning.specs.declared.core_stmt.CoreForHead.{CoreForHead}
use Rattle.c_unit_ends.proofs.uses.+statement.Goals as goal

pub in_stmt-returns-in-If : goal.in_stmt-returns-in-If
in_stmt-returns-in-If t c =
    let b = c.in-If in
    let xs = c.args.standings.now in
    let between = c.in_stmt-between in
    let last = c.in_stmt in
    missing_as xs c.args.found last.result c.args.s.now _ _ (uses b.test.value ++ stmt_uses (stmt_of b.then.value) ++ stmt_uses (stmt_of b.otherwise.value)) b.is (is_if b.test b.then b.otherwise) refl
    (missing_both xs c.args.found between.result last.result (uses b.test.value ++ stmt_uses (stmt_of b.then.value)) (stmt_uses (stmt_of b.otherwise.value))
    (missing_both xs c.args.found c.in_expr-before.result between.result (uses b.test.value) (stmt_uses (stmt_of b.then.value)) (c.in_expr-before.ensures ∙ ap (λ e. missing_in xs c.args.found (uses e)) c.deref.ensures)
    (missing_inside xs c.in_expr-before.result between.result c.deref-in-If.result.now b.then.value between.ensures c.deref-in-If.ensures))
    (missing_inside xs between.result last.result c.deref-in-If-2.result.now b.otherwise.value last.ensures c.deref-in-If-2.ensures))

pub in_stmt-returns-in-While : goal.in_stmt-returns-in-While
in_stmt-returns-in-While t c =
    let b = c.in-While in
    let xs = c.args.standings.now in
    let before = c.in_expr-before-in-While in
    let last = c.in_stmt-in-While in
    missing_as xs c.args.found last.result c.args.s.now _ _ (uses b.test ++ stmt_uses (stmt_of b.body.value)) b.is (is_while b.test b.body) refl
    (missing_both xs c.args.found before.result last.result (uses b.test) (stmt_uses (stmt_of b.body.value)) before.ensures
    (missing_inside xs before.result last.result c.deref-in-While.result.now b.body.value last.ensures c.deref-in-While.ensures))

pub in_stmt-returns-in-Do : goal.in_stmt-returns-in-Do
in_stmt-returns-in-Do t c =
    let b = c.in-Do in
    let xs = c.args.standings.now in
    let before = c.in_stmt-before in
    let last = c.in_expr-in-Do in
    missing_as xs c.args.found last.result c.args.s.now _ _ (stmt_uses (stmt_of b.body.value) ++ uses b.test) b.is (is_do b.body b.test) refl
    (missing_both xs c.args.found before.result last.result (stmt_uses (stmt_of b.body.value)) (uses b.test)
    (missing_inside xs c.args.found before.result c.deref-in-Do.result.now b.body.value before.ensures c.deref-in-Do.ensures) last.ensures)

pub in_stmt-returns-in-For : goal.in_stmt-returns-in-For
in_stmt-returns-in-For t c =
    let b = c.in-For in
    let xs = c.args.standings.now in
    let before = c.in_head-before in
    let body = c.in_stmt-in-For in
    missing_as xs c.args.found body.result c.args.s.now _ _ (some_uses b.head.value.first ++ some_uses b.head.value.test ++ some_uses b.head.value.last ++ stmt_uses (stmt_of b.body.value)) b.is (is_for b.head b.body) refl
    (missing_both xs c.args.found before.result body.result (some_uses b.head.value.first ++ some_uses b.head.value.test ++ some_uses b.head.value.last) (stmt_uses (stmt_of b.body.value))
    (before.ensures ∙ ap (λ (h : CoreForHead). missing_in xs c.args.found (some_uses h.first ++ some_uses h.test ++ some_uses h.last)) c.deref-in-For.ensures)
    (missing_inside xs before.result body.result c.deref-in-For-2.result.now b.body.value body.ensures c.deref-in-For-2.ensures))

pub in_stmt-returns-in-Switch : goal.in_stmt-returns-in-Switch
in_stmt-returns-in-Switch t c =
    let b = c.in-Switch in
    let xs = c.args.standings.now in
    let before = c.in_expr-before-in-Switch in
    let last = c.in_stmt-in-Switch in
    missing_as xs c.args.found last.result c.args.s.now _ _ (uses b.value.value ++ stmt_uses (stmt_of b.body.value)) b.is (is_switch b.value _ _ b.body) refl
    (missing_both xs c.args.found before.result last.result (uses b.value.value) (stmt_uses (stmt_of b.body.value)) (before.ensures ∙ ap (λ e. missing_in xs c.args.found (uses e)) c.deref-in-Switch.ensures)
    (missing_inside xs before.result last.result c.deref-in-Switch-2.result.now b.body.value last.ensures c.deref-in-Switch-2.ensures))

pub in_stmts-loop-s-preserved : goal.in_stmts-loop-s-preserved
in_stmts-loop-s-preserved t c =
    missing_more c.args.standings.now (λ (s : CoreStmt). stmt_uses (stmt_of s)) (λ (zs : List CoreStmt). stmts_uses (stmts_of (map stmt_of zs))) c.args.list.now c.loop-s.s-index c.s-item.result c.loop-s.least c.in_stmt-least.result c.loop-s-test.true c.s-item.is (λ z zs. refl) c.in_stmt-least.ensures
    ∙ c.loop-s.invariant
