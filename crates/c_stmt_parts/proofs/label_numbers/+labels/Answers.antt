use Rattle.std.proofs.Common.{◌≡◌, ◌+◌, refl, sym, ap, ◌∙◌, arith}
use Rattle.std.proofs.lemmas.Result.{IfOk-weaker, on_ok_weaker}
use Rattle.c_units.specs.Marks.{block_labels, block_marks, firsts}
use Rattle.c_stmt_parts.specs.StatementsSeen.{block_parts, block_seen, form_block, form_case, form_default, form_do, form_for, form_label, form_switch, form_while, statement_seen}
use Rattle.c_stmt_parts.proofs.LabelLists.{block_labels_are, block_marks_are, both_labels, both_marks, inner_labels, inner_marks, labelled_labels, labels_more, marks_more, next_labels, next_marks, plain_labels, plain_marks}
use Rattle.c_stmt_parts.proofs.label_numbers.+labels.Goals as goal

pub of_block-returns-clause-found : goal.of_block-returns-clause-found
of_block-returns-clause-found t c =
    on_ok_weaker c.of_all.result
    (λ h. h ∙ ap (λ ss. firsts c.args.found.now (block_labels c.args.before ss)) (sym (block_parts c.args.block.now)))
    (rw c.as_slice.ensures at c.of_all.ensures.found)

pub of_block-returns-clause-count : goal.of_block-returns-clause-count
of_block-returns-clause-count t c =
    IfOk-weaker c.of_all.result _ _
    (λ n h. h ∙ ap (λ ss. c.args.before + block_marks ss) (sym (block_parts c.args.block.now)))
    (rw c.as_slice.ensures at c.of_all.ensures.count)

pub of_all-loop-statement-preserved : goal.of_all-loop-statement-preserved
of_all-loop-statement-preserved t c =
    let l = c.loop-statement in
    record {
      found = labels_more l.found c.of_statement.new.found l.count c.in_ok-count.count c.args.list.now l.statement-index c.statement-item.result (omega arith) c.statement-item.is c.in_ok-count.ensures.found c.in_ok-count.ensures.count ∙ l.invariant.found;
      count = marks_more l.count c.in_ok-count.count c.args.list.now l.statement-index c.statement-item.result (omega arith) c.statement-item.is c.in_ok-count.ensures.count ∙ l.invariant.count;
    }

pub of_statement-returns-in_ok-next-in-Label-clause-found : goal.of_statement-returns-in_ok-next-in-Label-clause-found
of_statement-returns-in_ok-next-in-Label-clause-found t c =
    let x = c.deref.result.now in
    let y = c.in-Label.inner.value in
    let same : statement_seen x ≡ statement_seen y = cc in
    on_ok_weaker c.of_statement.result
    (λ h. labelled_labels c.args.s.now _ _ c.in-Label.is (form_label _ _ _) x y same c.args.found.now c.note.new.found c.of_statement.new.found c.args.before c.in_ok-next-in-Label.field-0 _ c.as_slice.result.now refl c.as_slice.ensures c.in_ok-note-in-Label.ensures c.in_ok-next-in-Label.ensures h)
    c.of_statement.ensures.found

pub of_statement-returns-in_ok-next-in-Label-clause-count : goal.of_statement-returns-in_ok-next-in-Label-clause-count
of_statement-returns-in_ok-next-in-Label-clause-count t c =
    let x = c.deref.result.now in
    let y = c.in-Label.inner.value in
    let same : statement_seen x ≡ statement_seen y = cc in
    IfOk-weaker c.of_statement.result _ _ (λ n h. next_marks c.args.s.now _ _ c.in-Label.is (form_label _ _ _) x y same c.args.before c.in_ok-next-in-Label.field-0 n refl c.in_ok-next-in-Label.ensures h) c.of_statement.ensures.count

pub of_statement-returns-in-Block-clause-found : goal.of_statement-returns-in-Block-clause-found
of_statement-returns-in-Block-clause-found t c =
    on_ok_weaker c.of_block.result (λ h. block_labels_are c.args.s.now _ _ c.in-Block.is (form_block _ _) c.args.found.now c.of_block.new.found _ c.args.before (ap (λ b. block_labels c.args.before (block_seen b)) (sym c.deref-in-Block.ensures)) h) c.of_block.ensures.found

pub of_statement-returns-in-Block-clause-count : goal.of_statement-returns-in-Block-clause-count
of_statement-returns-in-Block-clause-count t c =
    IfOk-weaker c.of_block.result _ _ (λ n h. block_marks_are c.args.s.now _ _ c.in-Block.is (form_block _ _) c.args.before n _ (ap (λ b. block_marks (block_seen b)) (sym c.deref-in-Block.ensures)) h) c.of_block.ensures.count

pub of_statement-returns-in_ok-between-in-If-clause-found : goal.of_statement-returns-in_ok-between-in-If-clause-found
of_statement-returns-in_ok-between-in-If-clause-found t c =
    let b = c.in-If in
    let first = c.in_ok-between-in-If in
    let x = c.deref-in-If.result.now in
    let same : statement_seen x ≡ statement_seen b.then.value = cc in
    on_ok_weaker c.of_else.result
    (λ h. both_labels c.args.s.now _ b.then b.otherwise b.is x same c.args.found.now c.of_statement-in-If.new.found c.of_else.new.found c.args.before first.between first.ensures.found first.ensures.count h)
    c.of_else.ensures.found

pub of_statement-returns-in_ok-between-in-If-clause-count : goal.of_statement-returns-in_ok-between-in-If-clause-count
of_statement-returns-in_ok-between-in-If-clause-count t c =
    let b = c.in-If in
    let first = c.in_ok-between-in-If in
    let x = c.deref-in-If.result.now in
    let same : statement_seen x ≡ statement_seen b.then.value = cc in
    IfOk-weaker c.of_else.result _ _ (λ n h. both_marks c.args.s.now _ b.then b.otherwise b.is x same c.args.before first.between n first.ensures.count h) c.of_else.ensures.count

pub of_statement-returns-in_ok-next-in-Case-clause-found : goal.of_statement-returns-in_ok-next-in-Case-clause-found
of_statement-returns-in_ok-next-in-Case-clause-found t c =
    let x = c.deref-in-Case.result.now in
    let y = c.in-Case.inner.value in
    let same : statement_seen x ≡ statement_seen y = cc in
    on_ok_weaker c.of_statement-in-Case.result (λ h. next_labels c.args.s.now _ _ c.in-Case.is (form_case _ _ _) x y same c.args.found.now c.of_statement-in-Case.new.found c.args.before c.in_ok-next-in-Case.field-0 refl c.in_ok-next-in-Case.ensures h) c.of_statement-in-Case.ensures.found

pub of_statement-returns-in_ok-next-in-Case-clause-count : goal.of_statement-returns-in_ok-next-in-Case-clause-count
of_statement-returns-in_ok-next-in-Case-clause-count t c =
    let x = c.deref-in-Case.result.now in
    let y = c.in-Case.inner.value in
    let same : statement_seen x ≡ statement_seen y = cc in
    IfOk-weaker c.of_statement-in-Case.result _ _ (λ n h. next_marks c.args.s.now _ _ c.in-Case.is (form_case _ _ _) x y same c.args.before c.in_ok-next-in-Case.field-0 n refl c.in_ok-next-in-Case.ensures h) c.of_statement-in-Case.ensures.count

pub of_statement-returns-in_ok-next-in-Default-clause-found : goal.of_statement-returns-in_ok-next-in-Default-clause-found
of_statement-returns-in_ok-next-in-Default-clause-found t c =
    let x = c.deref-in-Default.result.now in
    let y = c.in-Default.inner.value in
    let same : statement_seen x ≡ statement_seen y = cc in
    on_ok_weaker c.of_statement-in-Default.result (λ h. next_labels c.args.s.now _ _ c.in-Default.is (form_default _ _) x y same c.args.found.now c.of_statement-in-Default.new.found c.args.before c.in_ok-next-in-Default.field-0 refl c.in_ok-next-in-Default.ensures h) c.of_statement-in-Default.ensures.found

pub of_statement-returns-in_ok-next-in-Default-clause-count : goal.of_statement-returns-in_ok-next-in-Default-clause-count
of_statement-returns-in_ok-next-in-Default-clause-count t c =
    let x = c.deref-in-Default.result.now in
    let y = c.in-Default.inner.value in
    let same : statement_seen x ≡ statement_seen y = cc in
    IfOk-weaker c.of_statement-in-Default.result _ _ (λ n h. next_marks c.args.s.now _ _ c.in-Default.is (form_default _ _) x y same c.args.before c.in_ok-next-in-Default.field-0 n refl c.in_ok-next-in-Default.ensures h) c.of_statement-in-Default.ensures.count

pub of_statement-returns-in-Switch-clause-found : goal.of_statement-returns-in-Switch-clause-found
of_statement-returns-in-Switch-clause-found t c =
    let x = c.deref-in-Switch.result.now in
    let y = c.in-Switch.inner.value in
    let same : statement_seen x ≡ statement_seen y = cc in
    on_ok_weaker c.of_statement-in-Switch.result (λ h. inner_labels c.args.s.now _ _ c.in-Switch.is (form_switch _ _ _) x y same c.args.found.now c.of_statement-in-Switch.new.found c.args.before refl h) c.of_statement-in-Switch.ensures.found

pub of_statement-returns-in-Switch-clause-count : goal.of_statement-returns-in-Switch-clause-count
of_statement-returns-in-Switch-clause-count t c =
    let x = c.deref-in-Switch.result.now in
    let y = c.in-Switch.inner.value in
    let same : statement_seen x ≡ statement_seen y = cc in
    IfOk-weaker c.of_statement-in-Switch.result _ _ (λ n h. inner_marks c.args.s.now _ _ c.in-Switch.is (form_switch _ _ _) x y same c.args.before n refl h) c.of_statement-in-Switch.ensures.count

pub of_statement-returns-in-While-clause-found : goal.of_statement-returns-in-While-clause-found
of_statement-returns-in-While-clause-found t c =
    let x = c.deref-in-While.result.now in
    let y = c.in-While.inner.value in
    let same : statement_seen x ≡ statement_seen y = cc in
    on_ok_weaker c.of_statement-in-While.result (λ h. inner_labels c.args.s.now _ _ c.in-While.is (form_while _ _ _) x y same c.args.found.now c.of_statement-in-While.new.found c.args.before refl h) c.of_statement-in-While.ensures.found

pub of_statement-returns-in-While-clause-count : goal.of_statement-returns-in-While-clause-count
of_statement-returns-in-While-clause-count t c =
    let x = c.deref-in-While.result.now in
    let y = c.in-While.inner.value in
    let same : statement_seen x ≡ statement_seen y = cc in
    IfOk-weaker c.of_statement-in-While.result _ _ (λ n h. inner_marks c.args.s.now _ _ c.in-While.is (form_while _ _ _) x y same c.args.before n refl h) c.of_statement-in-While.ensures.count

pub of_statement-returns-in-Do-clause-found : goal.of_statement-returns-in-Do-clause-found
of_statement-returns-in-Do-clause-found t c =
    let x = c.deref-in-Do.result.now in
    let y = c.in-Do.inner.value in
    let same : statement_seen x ≡ statement_seen y = cc in
    on_ok_weaker c.of_statement-in-Do.result (λ h. inner_labels c.args.s.now _ _ c.in-Do.is (form_do _ _ _) x y same c.args.found.now c.of_statement-in-Do.new.found c.args.before refl h) c.of_statement-in-Do.ensures.found

pub of_statement-returns-in-Do-clause-count : goal.of_statement-returns-in-Do-clause-count
of_statement-returns-in-Do-clause-count t c =
    let x = c.deref-in-Do.result.now in
    let y = c.in-Do.inner.value in
    let same : statement_seen x ≡ statement_seen y = cc in
    IfOk-weaker c.of_statement-in-Do.result _ _ (λ n h. inner_marks c.args.s.now _ _ c.in-Do.is (form_do _ _ _) x y same c.args.before n refl h) c.of_statement-in-Do.ensures.count

pub of_statement-returns-in-For-clause-found : goal.of_statement-returns-in-For-clause-found
of_statement-returns-in-For-clause-found t c =
    let x = c.deref-in-For.result.now in
    let y = c.in-For.inner.value in
    let same : statement_seen x ≡ statement_seen y = cc in
    on_ok_weaker c.of_statement-in-For.result (λ h. inner_labels c.args.s.now _ _ c.in-For.is (form_for _ _ _) x y same c.args.found.now c.of_statement-in-For.new.found c.args.before refl h) c.of_statement-in-For.ensures.found

pub of_statement-returns-in-For-clause-count : goal.of_statement-returns-in-For-clause-count
of_statement-returns-in-For-clause-count t c =
    let x = c.deref-in-For.result.now in
    let y = c.in-For.inner.value in
    let same : statement_seen x ≡ statement_seen y = cc in
    IfOk-weaker c.of_statement-in-For.result _ _ (λ n h. inner_marks c.args.s.now _ _ c.in-For.is (form_for _ _ _) x y same c.args.before n refl h) c.of_statement-in-For.ensures.count

pub of_statement-returns-in-Expression-clause-found : goal.of_statement-returns-in-Expression-clause-found
of_statement-returns-in-Expression-clause-found t c = plain_labels c.args.found.now c.args.before c.args.s.now c.in-Expression.is

pub of_statement-returns-in-Expression-clause-count : goal.of_statement-returns-in-Expression-clause-count
of_statement-returns-in-Expression-clause-count t c = plain_marks c.args.before c.args.s.now c.in-Expression.is

pub of_statement-returns-in-Expression-2-clause-found : goal.of_statement-returns-in-Expression-2-clause-found
of_statement-returns-in-Expression-2-clause-found t c = plain_labels c.args.found.now c.args.before c.args.s.now c.in-Expression.is

pub of_statement-returns-in-Expression-2-clause-count : goal.of_statement-returns-in-Expression-2-clause-count
of_statement-returns-in-Expression-2-clause-count t c = plain_marks c.args.before c.args.s.now c.in-Expression.is

pub of_statement-returns-in-Expression-3-clause-found : goal.of_statement-returns-in-Expression-3-clause-found
of_statement-returns-in-Expression-3-clause-found t c = plain_labels c.args.found.now c.args.before c.args.s.now c.in-Expression.is

pub of_statement-returns-in-Expression-3-clause-count : goal.of_statement-returns-in-Expression-3-clause-count
of_statement-returns-in-Expression-3-clause-count t c = plain_marks c.args.before c.args.s.now c.in-Expression.is

pub of_statement-returns-in-Expression-4-clause-found : goal.of_statement-returns-in-Expression-4-clause-found
of_statement-returns-in-Expression-4-clause-found t c = plain_labels c.args.found.now c.args.before c.args.s.now c.in-Expression.is

pub of_statement-returns-in-Expression-4-clause-count : goal.of_statement-returns-in-Expression-4-clause-count
of_statement-returns-in-Expression-4-clause-count t c = plain_marks c.args.before c.args.s.now c.in-Expression.is

pub of_statement-returns-in-Expression-5-clause-found : goal.of_statement-returns-in-Expression-5-clause-found
of_statement-returns-in-Expression-5-clause-found t c = plain_labels c.args.found.now c.args.before c.args.s.now c.in-Expression.is

pub of_statement-returns-in-Expression-5-clause-count : goal.of_statement-returns-in-Expression-5-clause-count
of_statement-returns-in-Expression-5-clause-count t c = plain_marks c.args.before c.args.s.now c.in-Expression.is
