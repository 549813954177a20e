use Rattle.std.proofs.Common.{ap}
use Rattle.c_meaning.specs.CoreTrees.{line_of}
use Rattle.c_meaning.specs.StmtTrees.{stmt_of}
use Rattle.c_runs.specs.Expressions.{asked}
use Rattle.c_worlds.specs.Programs.{tree}
use Rattle.c_worlds.specs.Shown.{giving}
use Rattle.c_eval.proofs.Acts.{gets_halts}
use Rattle.c_eval.proofs.LoopSteps.{value_stops}
use Rattle.c_eval.proofs.machine.Machine.decide.Goals as goal

pub returns-in-Err-clause-same : goal.returns-in-Err-clause-same
returns-in-Err-clause-same c =
    let a = c.args in
    let x = c.in-Err in
    let e = c.in-Some.test.now in
    let line = c.test.inside.line in
    value_stops a.program.now a.self.now (stmt_of a.s.now) e a.value line x.stop c.stopped.result c.in-Some.ensures.some (ap line_of c.test.view_is)
    (gets_halts (λ k w. asked (giving (tree a.program.now e) a.value) line k w) a.self.now.world a.self.now.world x.stop x.ensures) c.stopped.ensures
