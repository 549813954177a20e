use Rattle.std.proofs.Common.{refl}
use Rattle.std.specs.Prelude.{Ok, Err}
use Rattle.c_filling.specs.Filled.{seen_places}
use Rattle.c_runs.specs.Outcomes.{Out}
use Rattle.c_runs.specs.Statements.{fill}
use Rattle.c_eval.specs.States.{own}
use Rattle.c_eval.proofs.Acts.{goes_own, with_world}
use Rattle.c_eval.proofs.StatementSteps.{done_meets, done_stops}
use Rattle.c_eval.specs.Frames.{frames}
use Rattle.c_eval.specs.Weights.{weights}
use Rattle.c_eval.proofs.Entering.{places_weigh}
use Rattle.c_eval.proofs.machine.Machine.fill.Goals as goal

pub returns-in-Ok-clause-same : goal.returns-in-Ok-clause-same
returns-in-Ok-clause-same c =
    let a = c.args in
    let x = c.in-Ok in
    let p = a.program.now in
    let w = c.fill.new.world in
    done_meets p a.self.now (with_world a.self.now w) (λ k v. fill (own p) a.base (seen_places p a.places.now) k v) x.ensures.stays.1 refl refl
    (goes_own p a.base a.places.now a.self.now.world w (Ok tt) x.ensures.goes)

pub returns-in-Err-clause-same : goal.returns-in-Err-clause-same
returns-in-Err-clause-same c =
    let a = c.args in
    let x = c.in-Err in
    let p = a.program.now in
    let w = c.fill.new.world in
    done_stops p a.self.now (with_world a.self.now w) (λ k v. fill (own p) a.base (seen_places p a.places.now) k v) (λ (o : Out). o) x.stop c.stopped.result x.ensures.stays.1 refl refl (λ how v. refl)
    (goes_own p a.base a.places.now a.self.now.world w (Err x.stop) x.ensures.goes) c.stopped.ensures

pub returns-in-Ok-clause-less : goal.returns-in-Ok-clause-less
returns-in-Ok-clause-less c = places_weigh c.args.places.now (weights (frames c.args.self.now.stack))
