use Rattle.std.specs.Prelude.{refl}
use Rattle.c_runs.specs.Expressions.{asked}
use Rattle.c_runs.specs.Outcomes.{Gives}
use Rattle.c_worlds.specs.Programs.{tree}
use Rattle.c_worlds.specs.Shown.{giving}
use Rattle.c_eval.specs.Stacks.{first_from}
use Rattle.c_eval.specs.States.{own}
use Rattle.c_eval.proofs.Firsts.{logical_stops}
use Rattle.c_eval.proofs.Meeting.{stop_meets}
use Rattle.c_eval.proofs.machine.Machine.decided.Goals as goal

pub returns-in-Err-clause-same : goal.returns-in-Err-clause-same
returns-in-Err-clause-same c =
    let p = c.args.program.now in
    let m = c.args.self.now in
    let e = c.args.e.now in
    let a = c.args.left.now in
    let b = c.args.right.now in
    let v = c.args.value in
    stop_meets p m m (λ k w. asked (giving (tree p a) v) c.line_of.result k w) (λ k w. first_from (own p) (tree p e) (Gives v k w))
    c.in-Err.stop c.stopped.result (refl, (refl, refl)) (λ k w how y d. logical_stops (own p) p e a b v c.line_of.result k w y how c.line_of.ensures c.requires.shape c.requires.kids d) c.in-Err.ensures c.stopped.ensures
