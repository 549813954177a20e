use Rattle.std.proofs.Common.{ap, ◌∙◌}
use Rattle.c_meaning.specs.CoreTrees.{line_of}
use Rattle.c_eval.proofs.SwitchSteps.{pointer_meets}
use Rattle.c_eval.proofs.machine.Machine.switch.Goals as goal

pub returns-in_default-given-clause-same : goal.returns-in_default-given-clause-same
returns-in_default-given-clause-same c = λ p t.
    let a = c.args in
    let x = c.in-Switch in
    pointer_meets p a.self.now a.s.now x.value x.cases x.default x.body a.given c.behind-value.inside.line t x.is (ap line_of (c.behind-value.view_is ∙ c.deref-in_default-given.ensures)) c.in_default-given.not-Number
