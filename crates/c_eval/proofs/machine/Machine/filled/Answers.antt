use Rattle.std.specs.Prelude.{refl}
use Rattle.std.proofs.Common.{ap, sym, ◌∙◌}
use Rattle.c_filling.specs.Filled.{filled_at, seen_place, seen_places}
use Rattle.c_runs.specs.Outcomes.{Gives}
use Rattle.c_runs.specs.Statements.{fill}
use Rattle.c_worlds.specs.Shown.{Goes, shown}
use Rattle.std.specs.Prelude.{Err}
use Rattle.c_eval.specs.Ends.{OfStatement}
use Rattle.c_eval.specs.Frames.{frames}
use Rattle.c_eval.specs.Stacks.{filled_from}
use Rattle.c_eval.specs.States.{ends, own}
use Rattle.c_eval.proofs.Meeting.{at_own, ends_same, goes_over, puts, with_world}
use Rattle.c_eval.proofs.Passing.{place_filled, place_over}
use Rattle.c_eval.proofs.machine.Machine.filled.Goals as goal

pub returns-in-Ok-clause-same : goal.returns-in-Ok-clause-same
returns-in-Ok-clause-same c = λ t.
    let p = c.args.program.now in
    let m = c.args.self.now in
    let fs = frames m.stack in
    let rest = seen_places p c.in-Some.rest.now in
    let w = shown c.fill_place.new.world t in
    ends_same p c.fill_place.new.world.locals.below m.world.locals.below fs fs (λ k x. OfStatement (fill (own p) c.args.base rest k x)) m.turns m.turns w (ap (λ l. l.below) c.fill_place.ensures.stays.1) refl refl
    ∙ ap (λ o. ends p m.world.locals.below fs (OfStatement o)) (sym (place_filled p c.args.places.now c.in-Some.first.now c.in-Some.rest.now c.args.base c.args.value m.turns (shown m.world t) w c.in-Some.ensures.some (λ calls. c.in-Ok.ensures.goes calls m.turns t)))

pub returns-in-Err-clause-same : goal.returns-in-Err-clause-same
returns-in-Err-clause-same c =
    let p = c.args.program.now in
    let m = c.args.self.now in
    let x = seen_place p c.in-Some.first.now in
    goes_over p m (with_world m c.fill_place.new.world) (λ k w. filled_at (own p) x c.args.base c.args.value k w) (λ k w. filled_from (own p) c.args.base (seen_places p c.args.places.now) (Gives c.args.value k w)) c.in-Err.stop c.stopped.result (puts m c.fill_place.new.world c.fill_place.ensures.stays.1)
    (λ k w how y d. place_over p c.args.places.now c.in-Some.first.now c.in-Some.rest.now c.args.base c.args.value k w y how c.in-Some.ensures.some d)
    (at_own p (λ s. Goes (λ k w. filled_at s x c.args.base c.args.value k w) m.world c.fill_place.new.world (Err c.in-Err.stop)) c.in-Err.ensures.goes) c.stopped.ensures
