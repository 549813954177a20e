use Rattle.std.proofs.Common.{ap, ◌∙◌}
use Rattle.lcc_base.specs.declared.cause.Cause.TheVariants.{Outside}
use Rattle.c_runs.specs.Expressions.{eval}
use Rattle.c_runs.specs.Outcomes.{stray}
use Rattle.c_worlds.specs.Programs.{tree}
use Rattle.c_worlds.specs.Shown.{shown}
use Rattle.c_eval.specs.declared.how.How.TheVariants.{Undefined}
use Rattle.c_eval.specs.Frames.{frames}
use Rattle.c_eval.specs.States.{own}
use Rattle.c_eval.proofs.Firsts.{stray_eval}
use Rattle.c_eval.proofs.Meeting.{over_meets}
use Rattle.c_eval.proofs.machine.Machine.eval_parts.Goals as goal

pub returns-in-Stray-clause-same : goal.returns-in-Stray-clause-same
returns-in-Stray-clause-same c = λ t.
    let p = c.args.program.now in
    let m = c.args.self.now in
    let e = c.args.e.now in
    over_meets p m.world.locals.below (frames m.stack) c.stray.result (Undefined Outside c.line_of.result) m.turns (shown m.world t) (eval (own p) (tree p e) m.turns (shown m.world t)) c.stray.ensures
    (ap (λ l. stray l (shown m.world t)) c.line_of.ensures ∙ stray_eval (own p) p e m.turns (shown m.world t) c.in-Stray.ensures)
