use Rattle.c_worlds.specs.Shown.{shown}
use Rattle.c_eval.specs.Frames.{frames}
use Rattle.c_eval.proofs.Firsts.{comma_pushed}
use Rattle.c_eval.proofs.machine.Machine.comma.Goals as goal

pub returns-in_ok-push-in-len1-up-clause-same : goal.returns-in_ok-push-in-len1-up-clause-same
returns-in_ok-push-in-len1-up-clause-same c = λ p t.
    let m = c.args.self.now in
    comma_pushed p m.world.locals.below (frames c.push.new.self) (frames m.stack) c.args.first.now c.args.rest m.turns (shown m.world t) c.in_ok-push-in-len1-up.ensures c.in-len1-up.len_at_least
