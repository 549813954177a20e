use Rattle.std.proofs.Common.{refl}
use Rattle.std.specs.Prelude.{Ok, Some, None}
use Rattle.c_meaning.specs.StmtTrees.{stmt_of}
use Rattle.c_runs.specs.Expressions.{eval}
use Rattle.c_runs.specs.Outcomes.{Gives, Result}
use Rattle.c_worlds.specs.declared.program.Program.{Program}
use Rattle.c_worlds.specs.Programs.{tree}
use Rattle.c_eval.specs.declared.focus.Focus.{Focus}
use Rattle.c_eval.specs.Ends.{OfStatement}
use Rattle.c_eval.specs.Stacks.{statement, switched_from}
use Rattle.c_eval.specs.States.{own}
use Rattle.c_eval.specs.Steps.{Meets}
use Rattle.c_eval.proofs.Acts.{comes_own, plain_stops, with_world}
use Rattle.c_eval.proofs.StatementSteps.{nothing_meets}
use Rattle.c_eval.proofs.SwitchSteps.{for_program, switch_goes, switched_ends, switched_none}
use Rattle.c_eval.proofs.machine.Machine.start_switch.Goals as goal

pub returns-in-Some-Ok-Some-clause-same : goal.returns-in-Some-Ok-Some-clause-same
returns-in-Some-Ok-Some-clause-same c =
    let a = c.args in
    let p = a.program.now in
    let x = c.in-Some-Ok-Some in
    let w = c.value_at_once.new.world in
    switch_goes p a.self.now (with_world a.self.now w) c.switch.new.self (stmt_of a.s.now) a.value.now x.given c.switch.result x.ensures.stays.1 refl refl
    (comes_own p a.value.now a.self.now.world w (Ok (Some x.given)) (let h = rw x.field-0-is at x.ensures.comes in rw x.field-0-0-is at h))
    (for_program p (λ (q : Program) (focus : Focus). Meets q (with_world a.self.now w) (λ k v. OfStatement (switched_from (own q) (statement q a.s.now) (Gives x.given k v))) c.switch.new.self focus) c.switch.result c.switch.ensures.same)

pub returns-in-Some-Ok-None-clause-same : goal.returns-in-Some-Ok-None-clause-same
returns-in-Some-Ok-None-clause-same c =
    let a = c.args in
    let p = a.program.now in
    let x = c.in-Some-Ok-None in
    let w = c.value_at_once.new.world in
    nothing_meets p a.self.now (with_world a.self.now w) (λ k v. eval (own p) (tree p a.value.now) k v) (λ (r : Result). switched_from (own p) (statement p a.s.now) r) c.no_result.result x.ensures.stays.1 refl refl
    (λ k v. switched_none (own p) (statement p a.s.now) k v) (comes_own p a.value.now a.self.now.world w (Ok None) (let h = rw x.field-0-is at x.ensures.comes in rw x.field-0-0-is at h)) c.no_result.ensures

pub returns-in-Some-Err-clause-same : goal.returns-in-Some-Err-clause-same
returns-in-Some-Err-clause-same c =
    let a = c.args in
    let p = a.program.now in
    let x = c.in-Some-Err in
    plain_stops p a.self.now c.value_at_once.new.world a.value.now (λ (r : Result). switched_from (own p) (statement p a.s.now) r) x.stop c.stopped.result
    (λ how v. switched_ends (own p) (statement p a.s.now) how v) x.ensures.stays.1 (rw x.field-0-is at x.ensures.comes) c.stopped.ensures
