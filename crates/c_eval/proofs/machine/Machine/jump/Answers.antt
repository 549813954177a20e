use Rattle.std.proofs.Common.{arith}
use Rattle.c_worlds.specs.Shown.{shown}
use Rattle.c_eval.specs.Frames.{frames}
use Rattle.c_eval.proofs.Turning.{jumps_in, no_turn_to_jump}
use Rattle.c_eval.proofs.machine.Machine.jump.Goals as goal

pub returns-then-self-eq0-clause-same : goal.returns-then-self-eq0-clause-same
returns-then-self-eq0-clause-same c p t =
    no_turn_to_jump p c.args.statements c.args.label c.args.self.now.turns (shown c.args.self.now.world t) c.args.self.now.world.locals.below (frames c.args.self.now.stack) c.if-self-eq0.true

pub returns-clause-same : goal.returns-clause-same
returns-clause-same c p t =
    jumps_in p c.turns_are_repetitions.ensures.gotos c.turns_fall.ensures.statements c.args.statements c.args.label c.args.self.now.turns (shown c.args.self.now.world t) c.args.self.now.world.locals.below (frames c.push.new.self) (frames c.args.self.now.stack) (omega (arith, c.if-self-eq0.false)) c.in_ok-push.ensures
