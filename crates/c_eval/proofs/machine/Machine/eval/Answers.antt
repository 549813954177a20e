use Rattle.std.specs.Prelude.{◌+◌, refl}
use Rattle.std.proofs.Common.{arith}
use Rattle.c_runs.specs.Expressions.{eval}
use Rattle.c_worlds.specs.Programs.{tree}
use Rattle.c_worlds.specs.Shown.{Comes}
use Rattle.c_eval.specs.States.{own}
use Rattle.c_eval.specs.Weights.{weight_e}
use Rattle.c_eval.proofs.Lighter.{below_more, came_light, weight_some}
use Rattle.c_eval.proofs.Meeting.{at_own, came_meets, puts, with_world}
use Rattle.c_eval.proofs.machine.Machine.eval.Goals as goal

pub returns-in-Some-clause-same : goal.returns-in-Some-clause-same
returns-in-Some-clause-same c =
    let p = c.args.program.now in
    let m = c.args.self.now in
    let e = tree p c.args.e.now in
    came_meets p m (with_world m c.value_at_once.new.world) (λ k w. eval (own p) e k w) (λ k w. eval (own p) e k w) c.in-Some.given c.came.result (puts m c.value_at_once.new.world c.in-Some.ensures.stays.1) (λ k w. refl)
    (at_own p (λ s. Comes (λ k w. eval s e k w) m.world c.value_at_once.new.world c.in-Some.given) c.in-Some.ensures.comes) c.came.ensures

pub returns-in-Some-clause-less : goal.returns-in-Some-clause-less
returns-in-Some-clause-less c =
    let m = c.args.self.now in
    let w = with_world m c.value_at_once.new.world in
    below_more 2 (1 + weight_e c.args.e.now) m w c.came.result (omega (arith, weight_some c.args.e.now)) (came_light m w c.in-Some.given c.came.result refl c.came.ensures)
