use Rattle.c_worlds.specs.Shown.{shown}
use Rattle.c_eval.specs.Frames.{frames}
use Rattle.c_eval.proofs.Unused.{body_given}
use Rattle.c_eval.proofs.machine.Machine.give.Goals as goal

pub returns-in-Some-Activation-clause-same : goal.returns-in-Some-Activation-clause-same
returns-in-Some-Activation-clause-same c = λ t.
    let p = c.args.program.now in
    let m = c.args.self.now in
    body_given p m.world.locals.below (frames c.pop.new.self) (frames m.stack) _ _ _ _ c.args.value c.stray-in-Some-Activation.result m.turns (shown m.world t) (rw c.in-Some-Activation.field-0-is at c.in-Some-Activation.ensures.some) c.stray-in-Some-Activation.ensures
