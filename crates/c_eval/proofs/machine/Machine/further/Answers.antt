use Rattle.lcc_base.specs.declared.cause.Cause.TheVariants.{Outside}
use Rattle.c_runs.specs.Expressions.{parts_of}
use Rattle.c_worlds.specs.Programs.{trees}
use Rattle.c_worlds.specs.Shown.{shown}
use Rattle.c_eval.specs.declared.how.How.TheVariants.{Undefined}
use Rattle.c_eval.specs.Frames.{frames}
use Rattle.c_eval.specs.Stacks.{comma_of}
use Rattle.c_eval.specs.States.{own}
use Rattle.c_eval.proofs.Firsts.{no_comma}
use Rattle.c_eval.proofs.Meeting.{over_meets}
use Rattle.c_eval.proofs.machine.Machine.further.Goals as goal

pub returns-in-empty-clause-same : goal.returns-in-empty-clause-same
returns-in-empty-clause-same c = λ p t.
    let m = c.args.self.now in
    over_meets p m.world.locals.below (frames m.stack) c.stray.result (Undefined Outside 0) m.turns (shown m.world t) (comma_of (parts_of (own p) (trees p c.args.parts.now)) m.turns (shown m.world t)) c.stray.ensures
    (no_comma (own p) p c.args.parts.now m.turns (shown m.world t) c.in-empty.len_below)
