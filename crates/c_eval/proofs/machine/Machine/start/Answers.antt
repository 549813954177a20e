use Rattle.std.proofs.Common.{refl}
use Rattle.c_runs.specs.Statements.{Start}
use Rattle.c_eval.proofs.Acts.{with_stack}
use Rattle.c_eval.proofs.Entering.{block_is_less, block_starts, for_starts, object_is_less, object_starts, while_starts}
use Rattle.c_eval.proofs.machine.Machine.start.Goals as goal

pub returns-in_ok-push-in-Block-clause-same : goal.returns-in_ok-push-in-Block-clause-same
returns-in_ok-push-in-Block-clause-same c =
    let a = c.args in
    let x = c.in-Block in
    block_starts a.program.now a.self.now (with_stack a.self.now c.push.new.self) a.s.now x.statements c.as_slice.result c.as_slice-in-Block.result x.first x.locals x.is c.as_slice.ensures c.as_slice-in-Block.ensures c.in_ok-push-in-Block.ensures refl refl

pub returns-in_ok-push-in-Block-clause-less : goal.returns-in_ok-push-in-Block-clause-less
returns-in_ok-push-in-Block-clause-less c =
    let a = c.args in
    let x = c.in-Block in
    block_is_less a.self.now (with_stack a.self.now c.push.new.self) a.s.now x.statements c.as_slice.result c.as_slice-in-Block.result x.first x.locals x.is c.as_slice-in-Block.ensures c.in_ok-push-in-Block.ensures

pub returns-in-Initialise-clause-same : goal.returns-in-Initialise-clause-same
returns-in-Initialise-clause-same c =
    let a = c.args in
    let x = c.in-Initialise in
    object_starts a.program.now a.self.now c.initialise.new.self a.s.now x.local x.zero x.places c.as_slice-in-Initialise.result.now Start c.initialise.result x.is c.as_slice-in-Initialise.ensures c.initialise.ensures.same

pub returns-in-Initialise-clause-less : goal.returns-in-Initialise-clause-less
returns-in-Initialise-clause-less c =
    let a = c.args in
    let x = c.in-Initialise in
    object_is_less a.self.now c.initialise.new.self a.s.now x.local x.zero x.places c.as_slice-in-Initialise.result.now c.initialise.result x.is c.as_slice-in-Initialise.ensures c.initialise.ensures.less

pub returns-in-While-clause-same : goal.returns-in-While-clause-same
returns-in-While-clause-same c =
    let a = c.args in
    let x = c.in-While in
    while_starts a.program.now a.self.now c.tested.new.self a.s.now x.test x.body c.tested.result x.is c.tested.ensures.same

pub returns-in-For-clause-same : goal.returns-in-For-clause-same
returns-in-For-clause-same c =
    let a = c.args in
    let x = c.in-For in
    for_starts a.program.now a.self.now c.begin.new.self a.s.now x.head x.body c.deref-in-For.result.now c.begin.result x.is c.deref-in-For.ensures c.begin.ensures.same
