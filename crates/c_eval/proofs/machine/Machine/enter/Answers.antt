use Rattle.std.proofs.lemmas.Result.{IfOk-weaker}
use Rattle.c_types.specs.Table.{types}
use Rattle.c_meaning.specs.Units.{function_seen}
use Rattle.c_runs.specs.Statements.{Start, exec}
use Rattle.c_worlds.specs.OpenLocals.{all_locals}
use Rattle.c_worlds.specs.Shown.{shown}
use Rattle.c_eval.specs.Frames.{frames}
use Rattle.c_eval.specs.States.{own}
use Rattle.c_eval.proofs.Invoking.{body_begins, body_fails}
use Rattle.c_eval.proofs.machine.Machine.enter.Goals as goal

pub returns-in-Ok-clause-enters : goal.returns-in-Ok-clause-enters
returns-in-Ok-clause-enters c xs a t =
    let p = c.args.program.now in
    let f = function_seen (types p.core.now.types) c.args.f.now in
    body_begins p f c.args.number xs c.args.self.now.turns (shown c.args.self.now.world t) _ _ (all_locals c.args.self.now.world.locals) (frames c.args.self.now.stack) c.in-Ok.ensures.below (c.in-Ok.ensures.enters xs a (λ k1 w1. exec (own p) f.body Start k1 w1) c.args.self.now.turns t)

pub returns-in-Err-clause-enters : goal.returns-in-Err-clause-enters
returns-in-Err-clause-enters c =
    IfOk-weaker c.stopped.result _ _ (λ focus e. body_fails c.args.program.now c.args.f.now c.args.number c.args.arguments.now c.args.self.now.world c.enter.new.world c.args.self.now.turns (frames c.args.self.now.stack) c.in-Err.stop focus c.in-Err.ensures.enters e) c.stopped.ensures
