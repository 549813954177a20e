use Rattle.std.proofs.Common.{refl, subst}
use Rattle.std.specs.Prelude.{Some, Err}
use Rattle.c_meaning.specs.StmtTrees.{stmt_of}
use Rattle.c_runs.specs.Expressions.{eval}
use Rattle.c_worlds.specs.Programs.{tree}
use Rattle.c_eval.specs.States.{own}
use Rattle.c_plain.specs.AtOnce.{DoneAtOnce}
use Rattle.c_eval.proofs.Acts.{comes_halts, comes_own, effect_comes, effect_stops, with_world}
use Rattle.c_eval.proofs.LoopSteps.{first_goes, first_stops}
use Rattle.c_eval.proofs.machine.Machine.prepare.Goals as goal

pub returns-in-Some-Ok-clause-same : goal.returns-in-Some-Ok-clause-same
returns-in-Some-Ok-clause-same c =
    let a = c.args in
    let x = c.in-Some-Ok in
    let e = c.args.first.now in
    let w = c.effect_at_once.new.world in
    let d = effect_comes a.program.now e a.self.now.world w x.field-0-0 (subst (λ r. DoneAtOnce a.program.now a.self.now.world w e r) x.field-0-is x.ensures.comes) in
    first_goes a.program.now a.self.now (with_world a.self.now w) c.tested.new.self (stmt_of a.s.now) (Some e) e d.0 c.tested.result refl x.ensures.stays.1 refl refl
    d.1 c.tested.ensures.same

pub returns-in-Some-Err-clause-same : goal.returns-in-Some-Err-clause-same
returns-in-Some-Err-clause-same c =
    let a = c.args in
    let x = c.in-Some-Err in
    let e = c.args.first.now in
    let w = c.effect_at_once.new.world in
    first_stops a.program.now a.self.now (with_world a.self.now w) (stmt_of a.s.now) (Some e) e x.stop c.stopped.result refl x.ensures.stays.1 refl refl
    (comes_halts (λ k v. eval (own a.program.now) (tree a.program.now e) k v) a.self.now.world w x.stop (comes_own a.program.now e a.self.now.world w (Err x.stop) (effect_stops a.program.now e a.self.now.world w x.stop (subst (λ r. DoneAtOnce a.program.now a.self.now.world w e r) x.field-0-is x.ensures.comes)))) c.stopped.ensures
