use Rattle.std.proofs.Common.{◌≡◌, refl, ap, ◌∙◌, arith}
use Rattle.std.proofs.lemmas.Result.{on_ok_weaker}
use Rattle.c_units.specs.Wholes.{once}
use Rattle.c_wholes.specs.Literals.{texts_of_expr, texts_of_places, texts_of_some, texts_of_stmt, texts_of_stmts}
use Rattle.c_wholes.proofs.LiteralTrees.{do_texts, for_texts, four_parts, if_texts, initialise_texts, next_noted, one_part, switch_texts, three_parts, two_parts, while_texts}
use Rattle.c_meaning.specs.declared.core_stmt.CoreForHead.{CoreForHead}
use Rattle.c_wholes.proofs.literals.+statement_literals.Goals as goal

pub note_statement-returns-in-Initialise : goal.note_statement-returns-in-Initialise
note_statement-returns-in-Initialise t c =
    let b = c.in-Initialise in
    on_ok_weaker c.note_places.result
    (λ h. one_part _ _ c.args.s.now _ _ b.is (initialise_texts b.local b.zero b.places) (h ∙ ap (λ ps. once c.args.texts.now (texts_of_places ps)) c.as_slice.ensures))
    c.note_places.ensures

pub note_statement-returns-in_ok-note_statement-in-If : goal.note_statement-returns-in_ok-note_statement-in-If
note_statement-returns-in_ok-note_statement-in-If t c =
    let b = c.in-If in
    let s = b.then.value in
    let u = b.otherwise.value in
    let test : texts_of_expr c.deref.result.now ≡ texts_of_expr b.test.value = cc in
    let same : texts_of_stmt c.deref-in-If.result.now ≡ texts_of_stmt s = cc in
    let like : texts_of_stmt c.deref-in-If-2.result.now ≡ texts_of_stmt u = cc in
    on_ok_weaker c.note_statement-in-If.result
    (λ h. three_parts _ _ _ _ c.args.s.now _ (texts_of_expr b.test.value) (texts_of_stmt s) (texts_of_stmt u) b.is (if_texts b.test b.then b.otherwise) (c.in_ok-note_expr-in-If.ensures ∙ ap (once c.args.texts.now) test) (c.in_ok-note_statement-in-If.ensures ∙ ap (once c.note_expr-in-If.new.texts) same) (h ∙ ap (once c.note_statement.new.texts) like))
    c.note_statement-in-If.ensures

pub note_statement-returns-in_ok-note_expr-in-While : goal.note_statement-returns-in_ok-note_expr-in-While
note_statement-returns-in_ok-note_expr-in-While t c =
    let b = c.in-While in
    let same : texts_of_stmt c.deref-in-While.result.now ≡ texts_of_stmt b.body.value = cc in
    on_ok_weaker c.note_statement-in-While.result
    (λ h. two_parts _ _ _ c.args.s.now _ (texts_of_expr b.test) (texts_of_stmt b.body.value) b.is (while_texts b.test b.body) c.in_ok-note_expr-in-While.ensures (h ∙ ap (once c.note_expr-in-While.new.texts) same))
    c.note_statement-in-While.ensures

pub note_statement-returns-in_ok-note_statement-in-Do : goal.note_statement-returns-in_ok-note_statement-in-Do
note_statement-returns-in_ok-note_statement-in-Do t c =
    let b = c.in-Do in
    let same : texts_of_stmt c.deref-in-Do.result.now ≡ texts_of_stmt b.body.value = cc in
    on_ok_weaker c.note_expr-in-Do.result
    (λ h. two_parts _ _ _ c.args.s.now _ (texts_of_stmt b.body.value) (texts_of_expr b.test) b.is (do_texts b.body b.test) (c.in_ok-note_statement-in-Do.ensures ∙ ap (once c.args.texts.now) same) h)
    c.note_expr-in-Do.ensures

pub note_statement-returns-in_ok-note_some-in-For-3 : goal.note_statement-returns-in_ok-note_some-in-For-3
note_statement-returns-in_ok-note_some-in-For-3 t c =
    let b = c.in-For in
    let first : c.deref-in-For.result.now ≡ b.head.value = cc in
    let test : c.deref-in-For-2.result.now ≡ b.head.value = cc in
    let last : c.deref-in-For-3.result.now ≡ b.head.value = cc in
    let same : texts_of_stmt c.deref-in-For-4.result.now ≡ texts_of_stmt b.body.value = cc in
    on_ok_weaker c.note_statement-in-For.result
    (λ h. four_parts _ _ _ _ _ c.args.s.now _ (texts_of_some b.head.value.first) (texts_of_some b.head.value.test) (texts_of_some b.head.value.last) (texts_of_stmt b.body.value) b.is (for_texts b.head b.body) (c.in_ok-note_some-in-For.ensures ∙ ap (λ (h : CoreForHead). once c.args.texts.now (texts_of_some h.first)) first)
    (c.in_ok-note_some-in-For-2.ensures ∙ ap (λ (h : CoreForHead). once c.note_some.new.texts (texts_of_some h.test)) test)
    (c.in_ok-note_some-in-For-3.ensures ∙ ap (λ (h : CoreForHead). once c.note_some-in-For.new.texts (texts_of_some h.last)) last) (h ∙ ap (once c.note_some-in-For-2.new.texts) same))
    c.note_statement-in-For.ensures

pub note_statement-returns-in_ok-note_expr-in-Switch : goal.note_statement-returns-in_ok-note_expr-in-Switch
note_statement-returns-in_ok-note_expr-in-Switch t c =
    let b = c.in-Switch in
    let value : texts_of_expr c.deref-in-Switch.result.now ≡ texts_of_expr b.value.value = cc in
    let same : texts_of_stmt c.deref-in-Switch-2.result.now ≡ texts_of_stmt b.body.value = cc in
    on_ok_weaker c.note_statement-in-Switch.result
    (λ h. two_parts _ _ _ c.args.s.now _ (texts_of_expr b.value.value) (texts_of_stmt b.body.value) b.is (switch_texts b.value b.cases b.default b.body) (c.in_ok-note_expr-in-Switch.ensures ∙ ap (once c.args.texts.now) value) (h ∙ ap (once c.note_expr-in-Switch.new.texts) same))
    c.note_statement-in-Switch.ensures

pub note_statements-loop-s-preserved : goal.note_statements-loop-s-preserved
note_statements-loop-s-preserved t c =
    let l = c.loop-s in
    next_noted texts_of_stmt texts_of_stmts (λ x xs. refl) c.args.list.now l.s-index c.s-item.result l.texts c.note_statement.new.texts (omega arith) c.s-item.is c.in_ok-note_statement.ensures ∙ l.invariant
