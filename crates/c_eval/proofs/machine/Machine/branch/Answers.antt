use Rattle.std.specs.Prelude.{refl}
use Rattle.std.proofs.Common.{ap}
use Rattle.c_meaning.specs.CoreTrees.{line_of}
use Rattle.c_runs.specs.Expressions.{asked}
use Rattle.c_runs.specs.Outcomes.{Gives, branch, then_do}
use Rattle.c_runs.specs.Statements.{Start, exec}
use Rattle.c_worlds.specs.Programs.{tree}
use Rattle.c_worlds.specs.Shown.{giving}
use Rattle.c_eval.specs.Loops.{asked_of}
use Rattle.c_eval.specs.Stacks.{statement}
use Rattle.c_eval.specs.States.{own}
use Rattle.c_eval.proofs.Meeting.{stop_over}
use Rattle.c_eval.proofs.machine.Machine.branch.Goals as goal

pub returns-in-Err-clause-same : goal.returns-in-Err-clause-same
returns-in-Err-clause-same c =
    let p = c.args.program.now in
    let m = c.args.self.now in
    let x = c.args.test.now in
    stop_over p m m (λ k w. asked (giving (tree p x) c.args.value) (line_of x) k w)
    (λ k w. then_do (asked_of (tree p x) (line_of x) (Gives c.args.value k w)) (λ v k1 w1. branch v (λ k2 w2. exec (own p) (statement p c.args.then.now) Start k2 w2) (λ k2 w2. exec (own p) (statement p c.args.otherwise.now) Start k2 w2) k1 w1))
    c.in-Err.stop c.stopped.result (refl, (refl, refl))
    (λ k w how y d. ap (λ r. then_do r (λ v k1 w1. branch v (λ k2 w2. exec (own p) (statement p c.args.then.now) Start k2 w2) (λ k2 w2. exec (own p) (statement p c.args.otherwise.now) Start k2 w2) k1 w1)) d)
    c.in-Err.ensures c.stopped.ensures
