use Rattle.std.proofs.Common.{refl}
use Rattle.std.specs.Prelude.{true, false, Ok}
use Rattle.c_runs.specs.Expressions.{test}
use Rattle.c_runs.specs.Outcomes.{Result, branch, then_do, truth}
use Rattle.c_runs.specs.Statements.{Start, exec}
use Rattle.c_worlds.specs.Programs.{tree}
use Rattle.c_eval.specs.declared.focus.Focus.TheVariants as at
use Rattle.c_eval.specs.Stacks.{statement}
use Rattle.c_eval.specs.States.{own}
use Rattle.c_eval.proofs.Acts.{gets_own, stops, test_halts, with_world}
use Rattle.c_eval.proofs.StatementSteps.{value_meets}
use Rattle.c_eval.proofs.machine.Machine.choose.Goals as goal

pub returns-in-Some-Ok-true-clause-same : goal.returns-in-Some-Ok-true-clause-same
returns-in-Some-Ok-true-clause-same c =
    let a = c.args in
    let x = c.in-Some-Ok-true in
    let p = a.program.now in
    let w = c.test_at_once.new.world in
    value_meets p a.self.now (with_world a.self.now w) (λ k v. test (own p) (tree p a.test.now) k v)
    (λ (r : Result). then_do r (λ u k1 w1. branch u (λ k2 w2. exec (own p) (statement p a.then.now) Start k2 w2) (λ k2 w2. exec (own p) (statement p a.otherwise.now) Start k2 w2) k1 w1)) (truth true) (at.Start a.then)
    x.ensures.stays.1 refl refl (gets_own p a.test.now a.self.now.world w (Ok (truth true)) (let h = rw x.field-0-is at x.ensures.comes in rw x.field-0-0-test at h)) (λ below fs k v. refl)

pub returns-in-Some-Ok-false-clause-same : goal.returns-in-Some-Ok-false-clause-same
returns-in-Some-Ok-false-clause-same c =
    let a = c.args in
    let x = c.in-Some-Ok-false in
    let p = a.program.now in
    let w = c.test_at_once.new.world in
    value_meets p a.self.now (with_world a.self.now w) (λ k v. test (own p) (tree p a.test.now) k v)
    (λ (r : Result). then_do r (λ u k1 w1. branch u (λ k2 w2. exec (own p) (statement p a.then.now) Start k2 w2) (λ k2 w2. exec (own p) (statement p a.otherwise.now) Start k2 w2) k1 w1)) (truth false) (at.Start a.otherwise)
    x.ensures.stays.1 refl refl (gets_own p a.test.now a.self.now.world w (Ok (truth false)) (let h = rw x.field-0-is at x.ensures.comes in rw x.field-0-0-test at h)) (λ below fs k v. refl)

pub returns-in-Some-Err-clause-same : goal.returns-in-Some-Err-clause-same
returns-in-Some-Err-clause-same c =
    let a = c.args in
    let x = c.in-Some-Err in
    let p = a.program.now in
    let w = c.test_at_once.new.world in
    stops p a.self.now (with_world a.self.now w) (λ k v. test (own p) (tree p a.test.now) k v)
    (λ (r : Result). then_do r (λ u k1 w1. branch u (λ k2 w2. exec (own p) (statement p a.then.now) Start k2 w2) (λ k2 w2. exec (own p) (statement p a.otherwise.now) Start k2 w2) k1 w1)) x.stop c.stopped.result
    (λ how v. refl) x.ensures.stays.1 refl refl (test_halts p a.self.now.world w a.test.now x.stop (rw x.field-0-is at x.ensures.comes)) c.stopped.ensures
