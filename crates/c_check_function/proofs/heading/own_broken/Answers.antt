use Rattle.std.proofs.Common.{◌≡◌, true, false, Some, length, refl, sym, ◌∙◌}
use Rattle.std.specs.Prelude.{◌||◌, ◌&&◌}
use Rattle.c_types.specs.Table.{tags, type_at}
use Rattle.c_check_expr.specs.PartsSeen.{step_seen, steps_seen}
use Rattle.c_units.specs.Definitions.{is_open_result, takes_open}
use Rattle.c_check_function.proofs.OwnSteps.{emptied, first_open, never_open, no_steps, split_in, then_open, whole_told}
use Rattle.c_check_function.proofs.heading.own_broken.Goals.{then-takes_open, else-takes_open+then-is_empty, else-takes_open+else-is_empty}
use Rattle.c_check_function.proofs.heading.own_broken.Goals as goal

pub takes_open-requires : goal.takes_open-requires
takes_open-requires c = (split_in (length c.args.types.now.forms) c.args.steps.now c.in-Some.before.now c.in-Some.own.now c.in-Some.ensures.cases.0 c.requires.steps).0

pub returns-then-not-is_definition : goal.returns-then-not-is_definition
returns-then-not-is_definition c =
    let t = c.args.types.now in
    whole_told t (type_at t c.args.base) c.args.steps.now c.in-Some.before.now c.in-Some.own.now c.in-Some.ensures.cases.0 c.requires.results (tags t)
    false _ _ _ (c.if-not-is_definition.ensures t) refl refl refl

pub returns-then-has_name_list : goal.returns-then-has_name_list
returns-then-has_name_list c =
    let t = c.args.types.now in
    whole_told t (type_at t c.args.base) c.args.steps.now c.in-Some.before.now c.in-Some.own.now c.in-Some.ensures.cases.0 c.requires.results (tags t)
    true true _ _ (c.if-not-is_definition.ensures t) (c.if-has_name_list.ensures t (type_at t c.args.base)) refl refl

pub returns-then-is_open_result : goal.returns-then-is_open_result
returns-then-is_open_result c =
    let t = c.args.types.now in
    let b = type_at t c.args.base in
    let own = step_seen t c.in-Some.own.now in
    let before = c.in-Some.before.now in
    let lacks : c.if-takes_open.value ≡ (takes_open (tags t) (Some own) || (no_steps (steps_seen t before) && is_open_result (tags t) b)) =
    elim c.if-takes_open.branch [
      | then-takes_open w ↦ w.value-is ∙ w.if-takes_open.true ∙ first_open (takes_open (tags t) (Some own)) (no_steps (steps_seen t before) && is_open_result (tags t) b) (sym w.if-takes_open.true ∙ c.takes_open.ensures)
      | else-takes_open+then-is_empty w ↦
          w.value-is ∙ then_open (takes_open (tags t) (Some own)) (no_steps (steps_seen t before)) (is_open_result (tags t) b) w.is_open_result.result (sym w.if-takes_open.false ∙ c.takes_open.ensures)
          (sym w.if-is_empty.true ∙ emptied t before w.is_empty.result w.is_empty.ensures) w.is_open_result.ensures
      | else-takes_open+else-is_empty w ↦
          w.value-is ∙ w.if-is_empty.false ∙ never_open (takes_open (tags t) (Some own)) (no_steps (steps_seen t before)) (is_open_result (tags t) b) (sym w.if-takes_open.false ∙ c.takes_open.ensures)
          (sym w.if-is_empty.false ∙ emptied t before w.is_empty.result w.is_empty.ensures)
    ]
    in
    whole_told t b c.args.steps.now before c.in-Some.own.now c.in-Some.ensures.cases.0 c.requires.results (tags t)
    true false true _ (c.if-not-is_definition.ensures t) (c.if-has_name_list.ensures t b) (sym c.if-is_open_result.true ∙ lacks) refl

pub returns-then-has_more : goal.returns-then-has_more
returns-then-has_more c =
    let t = c.args.types.now in
    let b = type_at t c.args.base in
    let own = step_seen t c.in-Some.own.now in
    let before = c.in-Some.before.now in
    let lacks : c.if-takes_open.value ≡ (takes_open (tags t) (Some own) || (no_steps (steps_seen t before) && is_open_result (tags t) b)) =
    elim c.if-takes_open.branch [
      | then-takes_open w ↦ w.value-is ∙ w.if-takes_open.true ∙ first_open (takes_open (tags t) (Some own)) (no_steps (steps_seen t before) && is_open_result (tags t) b) (sym w.if-takes_open.true ∙ c.takes_open.ensures)
      | else-takes_open+then-is_empty w ↦
          w.value-is ∙ then_open (takes_open (tags t) (Some own)) (no_steps (steps_seen t before)) (is_open_result (tags t) b) w.is_open_result.result (sym w.if-takes_open.false ∙ c.takes_open.ensures)
          (sym w.if-is_empty.true ∙ emptied t before w.is_empty.result w.is_empty.ensures) w.is_open_result.ensures
      | else-takes_open+else-is_empty w ↦
          w.value-is ∙ w.if-is_empty.false ∙ never_open (takes_open (tags t) (Some own)) (no_steps (steps_seen t before)) (is_open_result (tags t) b) (sym w.if-takes_open.false ∙ c.takes_open.ensures)
          (sym w.if-is_empty.false ∙ emptied t before w.is_empty.result w.is_empty.ensures)
    ]
    in
    whole_told t b c.args.steps.now before c.in-Some.own.now c.in-Some.ensures.cases.0 c.requires.results (tags t)
    true false false true (c.if-not-is_definition.ensures t) (c.if-has_name_list.ensures t b) (sym c.if-is_open_result.false ∙ lacks) (c.if-has_more.ensures t)

pub returns-else-has_more : goal.returns-else-has_more
returns-else-has_more c =
    let t = c.args.types.now in
    let b = type_at t c.args.base in
    let own = step_seen t c.in-Some.own.now in
    let before = c.in-Some.before.now in
    let lacks : c.if-takes_open.value ≡ (takes_open (tags t) (Some own) || (no_steps (steps_seen t before) && is_open_result (tags t) b)) =
    elim c.if-takes_open.branch [
      | then-takes_open w ↦ w.value-is ∙ w.if-takes_open.true ∙ first_open (takes_open (tags t) (Some own)) (no_steps (steps_seen t before) && is_open_result (tags t) b) (sym w.if-takes_open.true ∙ c.takes_open.ensures)
      | else-takes_open+then-is_empty w ↦
          w.value-is ∙ then_open (takes_open (tags t) (Some own)) (no_steps (steps_seen t before)) (is_open_result (tags t) b) w.is_open_result.result (sym w.if-takes_open.false ∙ c.takes_open.ensures)
          (sym w.if-is_empty.true ∙ emptied t before w.is_empty.result w.is_empty.ensures) w.is_open_result.ensures
      | else-takes_open+else-is_empty w ↦
          w.value-is ∙ w.if-is_empty.false ∙ never_open (takes_open (tags t) (Some own)) (no_steps (steps_seen t before)) (is_open_result (tags t) b) (sym w.if-takes_open.false ∙ c.takes_open.ensures)
          (sym w.if-is_empty.false ∙ emptied t before w.is_empty.result w.is_empty.ensures)
    ]
    in
    whole_told t b c.args.steps.now before c.in-Some.own.now c.in-Some.ensures.cases.0 c.requires.results (tags t)
    true false false false (c.if-not-is_definition.ensures t) (c.if-has_name_list.ensures t b) (sym c.if-is_open_result.false ∙ lacks) (c.if-has_more.ensures t)
