use Rattle.std.proofs.Common.{◌∙◌, arith}
use Rattle.c_worlds.specs.Shown.{shown}
use Rattle.c_eval.specs.Frames.{frames}
use Rattle.c_eval.proofs.Turning.{no_turn_left, repeats}
use Rattle.c_eval.proofs.machine.Machine.repeat.Goals as goal

pub returns-then-self-eq0-clause-same : goal.returns-then-self-eq0-clause-same
returns-then-self-eq0-clause-same c p t =
    no_turn_left p c.turns_are_repetitions.ensures.loops c.turns_fall.ensures.expressions c.turns_fall.ensures.statements c.args.s c.args.self.now.turns (shown c.args.self.now.world t) c.args.self.now.world.locals.below (frames c.args.self.now.stack) c.if-self-eq0.true

pub returns-clause-same : goal.returns-clause-same
returns-clause-same c p t =
    c.body_of.ensures p c.args.self.now.world.locals.below (frames c.push.new.self) _ (shown c.args.self.now.world t)
    ∙ repeats p c.turns_are_repetitions.ensures.loops c.turns_fall.ensures.expressions c.turns_fall.ensures.statements c.args.s c.args.self.now.turns (shown c.args.self.now.world t) c.args.self.now.world.locals.below (frames c.push.new.self) (frames c.args.self.now.stack) (omega (arith, c.if-self-eq0.false)) c.in_ok-push.ensures
