use Rattle.std.proofs.Common.{refl, ap}
use Rattle.std.specs.Prelude.{Some, None}
use Rattle.c_meaning.specs.CoreTrees.{line_of}
use Rattle.c_eval.specs.declared.focus.Focus.TheVariants as at
use Rattle.c_eval.proofs.Leaving.{given_resumes, stop_resumes}
use Rattle.c_eval.proofs.machine.Machine.leave.Goals as goal

pub returns-in-Ok-Some-clause-resumes : goal.returns-in-Ok-Some-clause-resumes
returns-in-Ok-Some-clause-resumes c =
    let a = c.args in
    let x = c.in-Ok-Some in
    given_resumes a.program.now a.call.now a.waiting a.value a.line a.self.now (record { alloc = a.self.now.alloc; stack = a.self.now.stack; world = c.leave.new.world; turns = a.self.now.turns }) (Some x.given) (at.Value x.given) refl refl x.ensures.output x.ensures.locals
    (rw x.field-0-is at x.ensures.leaves) refl

pub returns-in-Ok-None-clause-resumes : goal.returns-in-Ok-None-clause-resumes
returns-in-Ok-None-clause-resumes c =
    let a = c.args in
    let x = c.in-Ok-None in
    given_resumes a.program.now a.call.now a.waiting a.value a.line a.self.now (record { alloc = a.self.now.alloc; stack = a.self.now.stack; world = c.leave.new.world; turns = a.self.now.turns }) None (at.NoValue c.call.inside.line) refl refl x.ensures.output x.ensures.locals
    (rw x.field-0-is at x.ensures.leaves) (ap (λ e. at.NoValue (line_of e)) c.call.view_is)

pub returns-in-Err-clause-resumes : goal.returns-in-Err-clause-resumes
returns-in-Err-clause-resumes c =
    let a = c.args in
    let x = c.in-Err in
    stop_resumes a.program.now a.call.now a.waiting a.value a.line a.self.now (record { alloc = a.self.now.alloc; stack = a.self.now.stack; world = c.leave.new.world; turns = a.self.now.turns }) x.stop c.stopped.result x.ensures.output x.ensures.leaves c.stopped.ensures
