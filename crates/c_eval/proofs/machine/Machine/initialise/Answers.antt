use Rattle.std.proofs.Common.{refl, sym, ◌∙◌}
use Rattle.c_filling.specs.Filled.{seen_places}
use Rattle.c_eval.proofs.Acts.{with_world}
use Rattle.c_eval.proofs.StatementSteps.{filled_behind, no_local, zero_stops}
use Rattle.c_eval.proofs.machine.Machine.initialise.Goals as goal

pub returns-in-None-clause-same : goal.returns-in-None-clause-same
returns-in-None-clause-same c =
    let a = c.args in
    let p = a.program.now in
    no_local p a.self.now a.local a.zero (seen_places p a.places.now) c.stray.result (sym c.get.ensures ∙ c.in-None.is) c.stray.ensures

pub returns-in-Ok-clause-same : goal.returns-in-Ok-clause-same
returns-in-Ok-clause-same c =
    let a = c.args in
    let p = a.program.now in
    let x = c.in-Ok in
    filled_behind p a.self.now (with_world a.self.now c.make_zero.new.world) c.fill.new.self a.local a.zero (seen_places p a.places.now) c.in-Some.base c.fill.result (sym c.get.ensures ∙ c.in-Some.is) c.if-zero.true x.ensures.stays.1 refl refl
    x.ensures.goes c.fill.ensures.same

pub returns-in-Err-clause-same : goal.returns-in-Err-clause-same
returns-in-Err-clause-same c =
    let a = c.args in
    let p = a.program.now in
    let x = c.in-Err in
    zero_stops p a.self.now (with_world a.self.now c.make_zero.new.world) a.local a.zero (seen_places p a.places.now) c.in-Some.base x.stop c.stopped.result (sym c.get.ensures ∙ c.in-Some.is) c.if-zero.true x.ensures.stays.1 refl refl
    x.ensures.goes c.stopped.ensures
