use Rattle.std.proofs.Common.{refl, ap}
use Rattle.std.specs.Prelude.{◌∷◌, Ok, Err}
use Rattle.c_runs.specs.Calls.{Setting}
use Rattle.c_runs.specs.Outcomes.{Out, then_next}
use Rattle.c_runs.specs.Statements.{Start, exec, exec_all}
use Rattle.c_worlds.specs.Shown.{Goes}
use Rattle.c_eval.specs.declared.focus.Focus.TheVariants as at
use Rattle.c_eval.specs.Ends.{OfStatement}
use Rattle.c_eval.specs.Stacks.{statement, statements}
use Rattle.c_eval.specs.States.{own}
use Rattle.c_eval.proofs.Acts.{in_own, meets_by, with_world}
use Rattle.c_eval.proofs.StatementSteps.{done_stops}
use Rattle.c_eval.proofs.machine.Machine.list_from.Goals as goal

pub returns-in-Some-Ok-clause-same : goal.returns-in-Some-Ok-clause-same
returns-in-Some-Ok-clause-same c =
    let a = c.args in
    let x = c.in-Some-Ok in
    let p = a.program.now in
    let w = c.first_at_once.new.world in
    let g = in_own p (λ (s : Setting). Goes (λ k v. exec s (statement p a.first.now) Start k v) a.self.now.world w (Ok x.field-0-0)) (rw x.field-0-is at x.ensures.goes) in
    meets_by p a.self.now (with_world a.self.now w) (λ k v. OfStatement (exec_all (own p) (statements p (a.first.now ∷ a.rest.now)) Start k v)) (λ k v. OfStatement (exec_all (own p) (statements p a.rest.now) Start k v)) (at.List a.rest)
    x.ensures.stays.1 refl refl
    (λ k t. ap (λ o. OfStatement (then_next o (λ k1 w1. exec_all (own p) (statements p a.rest.now) Start k1 w1))) (g k t))
    (λ below fs k v. refl)

pub returns-in-Some-Err-clause-same : goal.returns-in-Some-Err-clause-same
returns-in-Some-Err-clause-same c =
    let a = c.args in
    let x = c.in-Some-Err in
    let p = a.program.now in
    let w = c.first_at_once.new.world in
    let g = in_own p (λ (s : Setting). Goes (λ k v. exec s (statement p a.first.now) Start k v) a.self.now.world w (Err x.stop)) (rw x.field-0-is at x.ensures.goes) in
    done_stops p a.self.now (with_world a.self.now w) (λ k v. exec (own p) (statement p a.first.now) Start k v) (λ (o : Out). then_next o (λ k1 w1. exec_all (own p) (statements p a.rest.now) Start k1 w1)) x.stop c.stopped.result
    x.ensures.stays.1 refl refl (λ how v. refl) g c.stopped.ensures
