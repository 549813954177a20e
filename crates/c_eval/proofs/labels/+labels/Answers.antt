use Rattle.std.proofs.Common.{sym, ◌∙◌}
use Rattle.c_eval.proofs.LabelsIn.{found_beyond, found_here, has_first, has_in_block, has_second}
use Rattle.c_eval.proofs.labels.+labels.Goals as goal

pub has_label-returns-in-Block : goal.has_label-returns-in-Block
has_label-returns-in-Block t c = λ p.
    c.any_has_label.ensures p ∙ has_in_block p c.args.s.now c.in-Block.first c.in-Block.locals _ c.as_slice.result.now c.args.label c.in-Block.is c.as_slice.ensures

pub has_label-returns-then-has_label : goal.has_label-returns-then-has_label
has_label-returns-then-has_label t c = λ p.
    has_first p c.args.s.now c.deref.result.now c.in-If.test c.in-If.then c.in-If.otherwise c.args.label c.has_label.result c.in-If.is c.deref.ensures (c.has_label.ensures p) c.if-has_label.true

pub has_label-returns-else-has_label : goal.has_label-returns-else-has_label
has_label-returns-else-has_label t c = λ p.
    has_second p c.args.s.now c.deref.result.now c.deref-else-has_label.result.now c.in-If.test c.in-If.then c.in-If.otherwise c.args.label c.has_label.result c.has_label-else-has_label.result c.in-If.is c.deref.ensures
    c.deref-else-has_label.ensures (c.has_label.ensures p) c.if-has_label.false (c.has_label-else-has_label.ensures p)

pub any_has_label-returns-then-has_label : goal.any_has_label-returns-then-has_label
any_has_label-returns-then-has_label t c = λ p.
    sym (found_here p c.args.statements.now c.loop-s.s-index c.s-item.result c.args.label c.loop-s-test.true c.s-item.is (sym (c.has_label.ensures p) ∙ c.if-has_label.true)) ∙ c.loop-s.invariant p

pub any_has_label-loop-s-preserved : goal.any_has_label-loop-s-preserved
any_has_label-loop-s-preserved t c = λ p.
    found_beyond p c.args.statements.now c.loop-s.s-index c.s-item.result c.args.label c.loop-s-test.true c.s-item.is (sym (c.has_label.ensures p) ∙ c.if-has_label.false) ∙ c.loop-s.invariant p
