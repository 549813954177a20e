use Rattle.std.specs.Prelude.{refl}
use Rattle.std.proofs.Common.{ap}
use Rattle.c_meaning.specs.CoreTrees.{line_of}
use Rattle.c_runs.specs.Expressions.{asked, eval}
use Rattle.c_runs.specs.Outcomes.{branch, then_give}
use Rattle.c_worlds.specs.Programs.{tree}
use Rattle.c_worlds.specs.Shown.{giving}
use Rattle.c_eval.specs.States.{own}
use Rattle.c_eval.proofs.Meeting.{stop_meets}
use Rattle.c_eval.proofs.machine.Machine.chosen.Goals as goal

pub returns-in-Err-clause-same : goal.returns-in-Err-clause-same
returns-in-Err-clause-same c =
    let p = c.args.program.now in
    let m = c.args.self.now in
    let x = c.args.test.now in
    stop_meets p m m (λ k w. asked (giving (tree p x) c.args.value) (line_of x) k w)
    (λ k w. then_give (asked (giving (tree p x) c.args.value) (line_of x) k w) (λ u k1 w1. branch u (λ k2 w2. eval (own p) (tree p c.args.then.now) k2 w2) (λ k2 w2. eval (own p) (tree p c.args.otherwise.now) k2 w2) k1 w1))
    c.in-Err.stop c.stopped.result (refl, (refl, refl))
    (λ k w how y d. ap (λ r. then_give r (λ u k1 w1. branch u (λ k2 w2. eval (own p) (tree p c.args.then.now) k2 w2) (λ k2 w2. eval (own p) (tree p c.args.otherwise.now) k2 w2) k1 w1)) d)
    c.in-Err.ensures c.stopped.ensures
