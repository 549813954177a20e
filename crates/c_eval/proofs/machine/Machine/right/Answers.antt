use Rattle.std.specs.Prelude.{refl}
use Rattle.std.proofs.Common.{ap}
use Rattle.c_runs.specs.Expressions.{asked}
use Rattle.c_runs.specs.Outcomes.{Gives}
use Rattle.c_worlds.specs.Programs.{tree}
use Rattle.c_worlds.specs.Shown.{giving, shown}
use Rattle.c_eval.specs.Ends.{OfExpression}
use Rattle.c_eval.specs.Frames.{frames}
use Rattle.c_eval.specs.Stacks.{right_from}
use Rattle.c_eval.specs.States.{ends}
use Rattle.c_eval.proofs.Firsts.{right_asked, right_passes}
use Rattle.c_eval.proofs.Meeting.{told_meets}
use Rattle.c_eval.proofs.machine.Machine.right.Goals as goal

pub returns-in-Some-clause-same : goal.returns-in-Some-clause-same
returns-in-Some-clause-same c =
    let p = c.args.program.now in
    let m = c.args.self.now in
    let e = c.args.e.now in
    let b = c.in-Some.right.now in
    let v = c.args.value in
    told_meets p m m (λ k w. asked (giving (tree p b) v) c.line_of.result k w) (λ k w. right_from (tree p e) (Gives v k w)) c.asked.result c.told.result (refl, (refl, refl)) (λ k w. right_asked p e _ b v c.line_of.result k w c.in-Some.ensures.some c.line_of.ensures) c.asked.ensures c.told.ensures

pub returns-in-None-clause-same : goal.returns-in-None-clause-same
returns-in-None-clause-same c = λ t.
    let p = c.args.program.now in
    let m = c.args.self.now in
    ap (λ r. ends p m.world.locals.below (frames m.stack) (OfExpression r)) (right_passes p c.args.e.now c.args.value m.turns (shown m.world t) c.in-None.ensures.none)
