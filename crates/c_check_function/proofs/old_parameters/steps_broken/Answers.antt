use Rattle.std.proofs.Common.{◌≡◌, true, false, List, length, refl, ap, sym, ◌∙◌}
use Rattle.std.specs.Prelude.{◌&&◌, ◌==◌, not}
use Rattle.c_types.specs.Table.{tags, type_at}
use Rattle.c_meaning.specs.TypeConstraints.{is_bad_element, is_bad_result, is_bad_size, some_step}
use Rattle.c_meaning.specs.TypeRows.{adjusted}
use Rattle.c_meaning.specs.Types.{has_size, is_void}
use Rattle.c_check_expr.specs.declared.parts.Step.{Step}
use Rattle.c_check_expr.specs.PartsSeen.{steps_seen}
use Rattle.c_check_function.specs.OldParameters.{old_seen}
use Rattle.c_check_function.proofs.OldSteps.{left_fails, right_fails, told_is}
use Rattle.c_check_function.proofs.OwnSteps.{emptied, no_steps}
use Rattle.c_check_function.proofs.old_parameters.steps_broken.Goals.{else-is_empty-via-then-is_empty+else-is_void, else-is_empty-via-else-is_empty, else-is_empty-2-via-then-is_empty-2+else-is_open, else-is_empty-2-via-else-is_empty-2}
use Rattle.c_check_function.proofs.old_parameters.steps_broken.Goals as goal

pub returns-then-is_unlisted : goal.returns-then-is_unlisted
returns-then-is_unlisted c =
    let t = c.args.types.now in
    let b = type_at t c.args.p.now.base in
    let ps = c.args.p.now.steps in
    let qs = steps_seen t ps in
    let kept = c.as_slice-steps.ensures in
    let void : false ≡ (no_steps qs && is_void b) =
    elim c.else-is_empty.branch [
      | else-is_empty-via-then-is_empty+else-is_void w ↦ right_fails (no_steps qs) (is_void b) (sym w.if-is_void.false ∙ w.is_void.ensures)
      | else-is_empty-via-else-is_empty w ↦ left_fails (no_steps qs) (is_void b) (sym w.if-is_empty.false ∙ emptied t ps c.is_empty.result (c.is_empty.ensures ∙ ap (λ (xs : List Step). length xs == 0) kept))
    ]
    in
    λ cs. told_is (tags t) (old_seen t cs c.args.p.now) false false false false true _
    (c.if-has_bad_size.ensures b ∙ ap (λ xs. some_step is_bad_size b (steps_seen t xs)) kept)
    (c.if-has_bad_element.ensures ∙ ap (λ xs. some_step (is_bad_element (tags t)) b (steps_seen t xs)) kept)
    (c.if-has_bad_result.ensures ∙ ap (λ xs. some_step is_bad_result b (steps_seen t xs)) kept)
    void (c.if-is_unlisted.ensures t b) refl

pub returns-else-is_empty-2 : goal.returns-else-is_empty-2
returns-else-is_empty-2 c =
    let t = c.args.types.now in
    let b = type_at t c.args.p.now.base in
    let ps = c.args.p.now.steps in
    let qs = steps_seen t ps in
    let kept = c.as_slice-steps.ensures in
    let void : false ≡ (no_steps qs && is_void b) =
    elim c.else-is_empty.branch [
      | else-is_empty-via-then-is_empty+else-is_void w ↦ right_fails (no_steps qs) (is_void b) (sym w.if-is_void.false ∙ w.is_void.ensures)
      | else-is_empty-via-else-is_empty w ↦ left_fails (no_steps qs) (is_void b) (sym w.if-is_empty.false ∙ emptied t ps c.is_empty.result (c.is_empty.ensures ∙ ap (λ (xs : List Step). length xs == 0) kept))
    ]
    in
    let lacks : false ≡ (no_steps qs && not (has_size (tags t) (adjusted b))) =
    elim c.else-is_empty-2.branch [
      | else-is_empty-2-via-then-is_empty-2+else-is_open w ↦ right_fails (no_steps qs) (not (has_size (tags t) (adjusted b))) (sym w.if-is_open.false ∙ w.is_open.ensures)
      | else-is_empty-2-via-else-is_empty-2 w ↦
          left_fails (no_steps qs) (not (has_size (tags t) (adjusted b))) (sym w.if-is_empty-2.false ∙ emptied t ps c.is_empty-else-is_unlisted.result (c.is_empty-else-is_unlisted.ensures ∙ ap (λ (xs : List Step). length xs == 0) kept))
    ]
    in
    λ cs. told_is (tags t) (old_seen t cs c.args.p.now) false false false false false false
    (c.if-has_bad_size.ensures b ∙ ap (λ xs. some_step is_bad_size b (steps_seen t xs)) kept)
    (c.if-has_bad_element.ensures ∙ ap (λ xs. some_step (is_bad_element (tags t)) b (steps_seen t xs)) kept)
    (c.if-has_bad_result.ensures ∙ ap (λ xs. some_step is_bad_result b (steps_seen t xs)) kept)
    void (c.if-is_unlisted.ensures t b) lacks
