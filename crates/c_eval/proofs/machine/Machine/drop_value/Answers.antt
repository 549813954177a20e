use Rattle.std.proofs.Common.{refl, subst}
use Rattle.c_runs.specs.Outcomes.{Next, then_go}
use Rattle.c_plain.specs.AtOnce.{DoneAtOnce}
use Rattle.c_eval.proofs.Acts.{effect_comes, effect_stops, plain_stops, with_world}
use Rattle.c_eval.proofs.StatementSteps.{value_dropped}
use Rattle.c_eval.proofs.machine.Machine.drop_value.Goals as goal

pub returns-in-Some-Ok-clause-same : goal.returns-in-Some-Ok-clause-same
returns-in-Some-Ok-clause-same c =
    let a = c.args in
    let x = c.in-Some-Ok in
    let w = c.effect_at_once.new.world in
    let d = effect_comes a.program.now a.e.now a.self.now.world w x.field-0-0 (subst (λ r. DoneAtOnce a.program.now a.self.now.world w a.e.now r) x.field-0-is x.ensures.comes) in
    value_dropped a.program.now a.self.now (with_world a.self.now w) a.e.now d.0 x.ensures.stays.1 refl refl d.1

pub returns-in-Some-Err-clause-same : goal.returns-in-Some-Err-clause-same
returns-in-Some-Err-clause-same c =
    let a = c.args in
    let x = c.in-Some-Err in
    plain_stops a.program.now a.self.now c.effect_at_once.new.world a.e.now (λ r. then_go r (λ k w. Next k w)) x.stop c.stopped.result (λ how w. refl) x.ensures.stays.1
    (effect_stops a.program.now a.e.now a.self.now.world c.effect_at_once.new.world x.stop (subst (λ r. DoneAtOnce a.program.now a.self.now.world c.effect_at_once.new.world a.e.now r) x.field-0-is x.ensures.comes)) c.stopped.ensures
