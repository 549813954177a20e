use Rattle.std.proofs.Common.{rules, ◌≡◌, ◌+◌, List, ◌++◌, ◌∷◌, [], length, map, take, sym, subst, ◌∙◌, arith}
use Rattle.c_types.specs.Table.{type_at}
use Rattle.c_meaning.specs.StmtTrees.{AreStmtsIn, stmt_of, stmt_seen, stmts_of, stmts_seen}
use Rattle.c_meaning.specs.declared.core_stmt.CoreStmt.{CoreStmt}
use Rattle.c_units.specs.Wholes.{whole_stmt, whole_stmts}
use Rattle.c_standings.specs.StandingLists.{meant}
use Rattle.c_wholes.specs.Placing.{AreStmtsPlaced, IsStmtPlaced}
use Rattle.c_wholes.proofs.Layers.{is_do, is_for, is_if, is_initialise, is_label, is_switch, is_while}
use Rattle.c_wholes.proofs.Loops.{next}
use Rattle.c_wholes.proofs.PlacedLists.{one_more_stmt, stmts_whole_behind}
use Rattle.c_wholes.proofs.PlacedStmts.{by_layer, do_placed, for_placed, from_head, from_stmt, from_value, if_placed, initialise_seen, label_placed, switch_placed, while_placed}
use Rattle.c_wholes.proofs.statements.+statements.Goals as goal

pub made_whole-returns-in_ok-whole_places-in-Initialise : goal.made_whole-returns-in_ok-whole_places-in-Initialise
made_whole-returns-in_ok-whole_places-in-Initialise t c =
    let k = c.args.k.now in
    let m = meant k.standings.now in
    let x = k.texts.now in
    let b = c.in-Initialise in
    by_layer k.types.now m x _ _ c.args.s _ _ _ b.is (is_initialise b.local b.zero b.places)
    (initialise_seen k.types.now m x _ _ b.local b.zero b.places _ c.in_ok-whole_places-in-Initialise.ensures)

pub made_whole-returns-in_ok-whole_statement-in-If-2 : goal.made_whole-returns-in_ok-whole_statement-in-If-2
made_whole-returns-in_ok-whole_statement-in-If-2 t c =
    let k = c.args.k.now in
    let m = meant k.standings.now in
    let x = k.texts.now in
    let b = c.in-If in
    let test : c.deref_mut.result.now ≡ b.test.value = cc in
    let same : c.deref_mut-in-If.result.now ≡ b.then.value = cc in
    let other : c.deref_mut-in-If-2.result.now ≡ b.otherwise.value = cc in
    let e = from_value k.types.now m x _ _ _ b.test.value _ test c.in_ok-whole_value-in-If.ensures in
    let s = from_stmt k.types.now m x _ _ _ b.then.value _ same c.in_ok-whole_statement-in-If.ensures in
    let u = from_stmt k.types.now m x _ _ _ b.otherwise.value _ other c.in_ok-whole_statement-in-If-2.ensures in
    by_layer k.types.now m x _ _ c.args.s _ _ _ b.is (is_if b.test b.then b.otherwise)
    (if_placed k.types.now _ _ _ _ _ _ _ _ _ _ e s u)

pub made_whole-returns-in_ok-whole_statement-in-While : goal.made_whole-returns-in_ok-whole_statement-in-While
made_whole-returns-in_ok-whole_statement-in-While t c =
    let k = c.args.k.now in
    let m = meant k.standings.now in
    let x = k.texts.now in
    let b = c.in-While in
    let same : c.deref_mut-in-While.result.now ≡ b.body.value = cc in
    let s = from_stmt k.types.now m x _ _ _ b.body.value _ same c.in_ok-whole_statement-in-While.ensures in
    by_layer k.types.now m x _ _ c.args.s _ _ _ b.is (is_while b.test b.body)
    (while_placed k.types.now _ _ _ _ _ _ _ c.in_ok-whole_value-in-While.ensures s)

pub made_whole-returns-in_ok-whole_value-in-Do : goal.made_whole-returns-in_ok-whole_value-in-Do
made_whole-returns-in_ok-whole_value-in-Do t c =
    let k = c.args.k.now in
    let m = meant k.standings.now in
    let x = k.texts.now in
    let b = c.in-Do in
    let same : c.deref_mut-in-Do.result.now ≡ b.body.value = cc in
    let s = from_stmt k.types.now m x _ _ _ b.body.value _ same c.in_ok-whole_statement-in-Do.ensures in
    by_layer k.types.now m x _ _ c.args.s _ _ _ b.is (is_do b.body b.test)
    (do_placed k.types.now _ _ _ _ _ _ _ s c.in_ok-whole_value-in-Do.ensures)

pub made_whole-returns-in_ok-whole_statement-in-For : goal.made_whole-returns-in_ok-whole_statement-in-For
made_whole-returns-in_ok-whole_statement-in-For t c =
    let k = c.args.k.now in
    let m = meant k.standings.now in
    let x = k.texts.now in
    let b = c.in-For in
    let head : c.deref_mut-in-For.result.now ≡ b.head.value = cc in
    let same : c.deref_mut-in-For-2.result.now ≡ b.body.value = cc in
    let s = from_stmt k.types.now m x _ _ _ b.body.value _ same c.in_ok-whole_statement-in-For.ensures in
    let h = from_head k.types.now m x _ _ _ b.head.value _ head c.in_ok-whole_head-in-For.ensures in
    by_layer k.types.now m x _ _ c.args.s _ _ _ b.is (is_for b.head b.body) (for_placed k.types.now _ _ _ _ b.head.value _ _ _ h s)

pub made_whole-returns-in_ok-whole_statement-in-Switch : goal.made_whole-returns-in_ok-whole_statement-in-Switch
made_whole-returns-in_ok-whole_statement-in-Switch t c =
    let k = c.args.k.now in
    let m = meant k.standings.now in
    let x = k.texts.now in
    let b = c.in-Switch in
    let value : c.deref_mut-in-Switch.result.now ≡ b.value.value = cc in
    let same : c.deref_mut-in-Switch-2.result.now ≡ b.body.value = cc in
    let e = from_value k.types.now m x _ _ _ b.value.value _ value c.in_ok-whole_value-in-Switch.ensures in
    let s = from_stmt k.types.now m x _ _ _ b.body.value _ same c.in_ok-whole_statement-in-Switch.ensures in
    by_layer k.types.now m x _ _ c.args.s _ _ _ b.is (is_switch b.value b.cases b.default b.body)
    (switch_placed k.types.now _ _ _ _ b.cases b.default _ _ _ e s)

pub made_whole-returns-in_ok-whole_statement-in-Label : goal.made_whole-returns-in_ok-whole_statement-in-Label
made_whole-returns-in_ok-whole_statement-in-Label t c =
    let k = c.args.k.now in
    let m = meant k.standings.now in
    let x = k.texts.now in
    let b = c.in-Label in
    let same : c.deref_mut-in-Label.result.now ≡ b.s.value = cc in
    let s = from_stmt k.types.now m x _ _ _ b.s.value _ same c.in_ok-whole_statement-in-Label.ensures in
    by_layer k.types.now m x _ _ c.args.s _ _ _ b.is (is_label b.label b.s)
    (label_placed k.types.now _ _ b.label _ _ s)

pub each_statement-loop-i-preserved : goal.each_statement-loop-i-preserved
each_statement-loop-i-preserved t c =
    let k = c.args.k.now in
    let types = k.types.now in
    let f = type_at types in
    let m = meant k.standings.now in
    let x = k.texts.now in
    let made = λ (zs : List CoreStmt). whole_stmts m x (stmts_seen f (stmts_of (map stmt_of zs))) in
    let l = c.loop-i in
    let v = l.invariant in
    let xs = c.args.list.now in
    let s = c.index-list-i.result in
    let y = c.whole_statement.new.s in
    let a = c.args.locals.now in
    let d = c.whole_statement.new.locals in
    let n = next xs l.list l.i s y (omega arith) v.lengths v.left c.index-list-i.is in
    let p = subst (λ z. IsStmtPlaced types l.locals d (whole_stmt m x (stmt_seen f (stmt_of z))) y) (sym c.index-list-i.is) c.in_ok-whole_statement.ensures in
    let more = one_more_stmt types a l.locals d (made (take l.i xs)) (whole_stmt m x (stmt_seen f (stmt_of s))) (take l.i l.list) y v.placed p in
    let all = subst (λ ss. AreStmtsPlaced types a d ss (take l.i l.list ++ y ∷ [])) (sym (stmts_whole_behind m x f (take l.i xs) s)) more in
    let old = subst (λ zs. AreStmtsPlaced types a d (made zs) (take l.i l.list ++ y ∷ [])) (sym n.old) all in
    record {
      placed = subst (λ zs. AreStmtsPlaced types a d (made (take (l.i + 1) xs)) zs) (sym n.new) old;
      left = n.left;
      lengths = n.lengths;
      within = subst (λ zs. AreStmtsIn (length types.forms) (stmts_of (map stmt_of zs))) (sym n.left) ((subst (λ zs. AreStmtsIn (length types.forms) (stmts_of (map stmt_of zs))) (v.left ∙ n.behind) v.within).1);
      unvisited = search rules;
    }
