use Rattle.std.specs.Prelude.{◌++◌, ◌∷◌, []}
use Rattle.std.proofs.Common.{ap, sym, ◌∙◌}
use Rattle.std.proofs.lemmas.Result.{on_ok_weaker}
use Rattle.statement_steps.specs.Numbering.{all_labels_of, labels_of}
use Rattle.statement_steps.proofs.lemmas.Labelling.{added_as, added_both, block_has, body_has, if_has, label_has, none_added, without_labels}
use Rattle.statement_steps.proofs.labels.+labelling.Goals as goal

pub add_labels-returns-in-Block : goal.add_labels-returns-in-Block
add_labels-returns-in-Block t c =
    let x = c.in-Block in
    on_ok_weaker c.add_all.result (λ h known.
    added_as c.add_all.new.all.items c.args.all.now.items (all_labels_of known c.as_slice.result.now) (labels_of known c.args.s.now) (h known)
    (ap (all_labels_of known) c.as_slice.ensures ∙ block_has known x.first x.locals x.statements ∙ ap (labels_of known) (sym x.is))) c.add_all.ensures

pub add_labels-returns-in_ok-add_labels-in-If : goal.add_labels-returns-in_ok-add_labels-in-If
add_labels-returns-in_ok-add_labels-in-If t c =
    let x = c.in-If in
    on_ok_weaker c.add_labels-in-If.result (λ h known.
    added_both c.add_labels-in-If.new.all.items c.add_labels.new.all.items c.args.all.now.items (labels_of known c.deref.result.now) (labels_of known c.deref-in-If.result.now) (labels_of known c.args.s.now)
    (c.in_ok-add_labels-in-If.ensures known) (h known)
    ((λ i. labels_of known (c.deref.ensures i) ++ labels_of known (c.deref-in-If.ensures i)) ∙ if_has known x.test x.then x.otherwise ∙ ap (labels_of known) (sym x.is))) c.add_labels-in-If.ensures

pub add_labels-returns-in_ok-push-in-Label : goal.add_labels-returns-in_ok-push-in-Label
add_labels-returns-in_ok-push-in-Label t c =
    let x = c.in-Label in
    on_ok_weaker c.add_labels-in-Label.result (λ h known.
    added_both c.add_labels-in-Label.new.all.items c.push.new.self.items c.args.all.now.items (x.label ∷ []) (labels_of known c.deref-in-Label.result.now) (labels_of known c.args.s.now)
    c.in_ok-push-in-Label.ensures.items (h known)
    (ap (λ ls. x.label ∷ ls) (ap (labels_of known) c.deref-in-Label.ensures) ∙ label_has known x.label x.inner ∙ ap (labels_of known) (sym x.is))) c.add_labels-in-Label.ensures

pub add_labels-returns-in-While : goal.add_labels-returns-in-While
add_labels-returns-in-While t c =
    on_ok_weaker c.add_labels-in-While.result (λ h known.
    added_as c.add_labels-in-While.new.all.items c.args.all.now.items (labels_of known c.deref-in-While.result.now) (labels_of known c.args.s.now) (h known)
    (ap (labels_of known) c.deref-in-While.ensures ∙ body_has known c.args.s.now c.in-While.body c.in-While.is)) c.add_labels-in-While.ensures

pub add_labels-returns-in-Nothing : goal.add_labels-returns-in-Nothing
add_labels-returns-in-Nothing t c = λ known. none_added c.args.all.now.items (labels_of known c.args.s.now) (without_labels known c.args.s.now c.in-Nothing.is)

pub add_labels-returns-in-Nothing-2 : goal.add_labels-returns-in-Nothing-2
add_labels-returns-in-Nothing-2 t c = λ known. none_added c.args.all.now.items (labels_of known c.args.s.now) (without_labels known c.args.s.now c.in-Nothing.is)

pub add_labels-returns-in-Nothing-3 : goal.add_labels-returns-in-Nothing-3
add_labels-returns-in-Nothing-3 t c = λ known. none_added c.args.all.now.items (labels_of known c.args.s.now) (without_labels known c.args.s.now c.in-Nothing.is)

pub add_labels-returns-in-Nothing-4 : goal.add_labels-returns-in-Nothing-4
add_labels-returns-in-Nothing-4 t c = λ known. none_added c.args.all.now.items (labels_of known c.args.s.now) (without_labels known c.args.s.now c.in-Nothing.is)

pub add_labels-returns-in-Nothing-5 : goal.add_labels-returns-in-Nothing-5
add_labels-returns-in-Nothing-5 t c = λ known. none_added c.args.all.now.items (labels_of known c.args.s.now) (without_labels known c.args.s.now c.in-Nothing.is)

pub add_labels-returns-in-Nothing-6 : goal.add_labels-returns-in-Nothing-6
add_labels-returns-in-Nothing-6 t c = λ known. none_added c.args.all.now.items (labels_of known c.args.s.now) (without_labels known c.args.s.now c.in-Nothing.is)

pub add_labels-returns-in-Nothing-7 : goal.add_labels-returns-in-Nothing-7
add_labels-returns-in-Nothing-7 t c = λ known. none_added c.args.all.now.items (labels_of known c.args.s.now) (without_labels known c.args.s.now c.in-Nothing.is)
