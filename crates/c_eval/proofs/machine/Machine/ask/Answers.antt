use Rattle.std.proofs.Common.{refl}
use Rattle.std.specs.Prelude.{true, false, Ok}
use Rattle.c_meaning.specs.StmtTrees.{stmt_of}
use Rattle.c_runs.specs.Outcomes.{truth}
use Rattle.c_eval.specs.declared.focus.Focus.TheVariants as at
use Rattle.c_eval.proofs.Acts.{gets_own, test_halts, with_world}
use Rattle.c_eval.proofs.LoopSteps.{test_stops, told_goes}
use Rattle.c_eval.proofs.machine.Machine.ask.Goals as goal

pub returns-in-Some-Ok-true-clause-same : goal.returns-in-Some-Ok-true-clause-same
returns-in-Some-Ok-true-clause-same c =
    let a = c.args in
    let x = c.in-Some-Ok-true in
    let e = c.args.test.now in
    let w = c.test_at_once.new.world in
    told_goes a.program.now a.self.now (with_world a.self.now w) (stmt_of a.s.now) e true (at.Repeat a.s) c.requires.test x.ensures.stays.1 refl refl
    (gets_own a.program.now e a.self.now.world w (Ok (truth true)) (let h = rw x.field-0-is at x.ensures.comes in rw x.field-0-0-test at h)) (λ below fs k v. refl)

pub returns-in-Some-Ok-false-clause-same : goal.returns-in-Some-Ok-false-clause-same
returns-in-Some-Ok-false-clause-same c =
    let a = c.args in
    let x = c.in-Some-Ok-false in
    let e = c.args.test.now in
    let w = c.test_at_once.new.world in
    told_goes a.program.now a.self.now (with_world a.self.now w) (stmt_of a.s.now) e false at.Next c.requires.test x.ensures.stays.1 refl refl
    (gets_own a.program.now e a.self.now.world w (Ok (truth false)) (let h = rw x.field-0-is at x.ensures.comes in rw x.field-0-0-test at h)) (λ below fs k v. refl)

pub returns-in-Some-Err-clause-same : goal.returns-in-Some-Err-clause-same
returns-in-Some-Err-clause-same c =
    let a = c.args in
    let x = c.in-Some-Err in
    let e = c.args.test.now in
    let w = c.test_at_once.new.world in
    test_stops a.program.now a.self.now (with_world a.self.now w) (stmt_of a.s.now) e x.stop c.stopped.result c.requires.test x.ensures.stays.1 refl refl
    (test_halts a.program.now a.self.now.world w e x.stop (rw x.field-0-is at x.ensures.comes)) c.stopped.ensures
