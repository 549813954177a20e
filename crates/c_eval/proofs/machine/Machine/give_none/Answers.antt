use Rattle.std.specs.Prelude.{[]}
use Rattle.c_worlds.specs.Programs.{tree}
use Rattle.c_worlds.specs.Shown.{shown}
use Rattle.c_runs.specs.Outcomes.{GivesNone}
use Rattle.c_eval.specs.Frames.{frames}
use Rattle.c_eval.specs.Stacks.{first_from}
use Rattle.c_eval.specs.States.{own}
use Rattle.c_eval.proofs.Meeting.{unused_light}
use Rattle.c_eval.proofs.Unused.{argument_unused, body_unused, branch_unused, fill_unused, first_light, first_unused, return_unused, right_unused, second_unused, switch_unused, test_unused}
use Rattle.c_eval.proofs.machine.Machine.give_none.Goals as goal

pub returns-in-Some-First-clause-same : goal.returns-in-Some-First-clause-same
returns-in-Some-First-clause-same c = λ t.
    let p = c.args.program.now in
    let m = c.args.self.now in
    let w = shown m.world t in
    first_unused p m.world.locals.below (frames c.pop.new.self) (frames m.stack) c.in-Some-First.e c.args.line c.unused.result m.turns w (rw c.in-Some-First.field-0-is at c.in-Some-First.ensures.some) (c.unused.ensures p (own p) m.turns w)

pub returns-in-Some-First-clause-less : goal.returns-in-Some-First-clause-less
returns-in-Some-First-clause-less c =
    let p = c.args.program.now in
    let m = c.args.self.now in
    let w = shown m.world [] in
    first_light (frames c.pop.new.self) (frames m.stack) c.in-Some-First.e c.unused.result (rw c.in-Some-First.field-0-is at c.in-Some-First.ensures.some)
    (unused_light c.unused.result (first_from (own p) (tree p c.in-Some-First.e.now) (GivesNone c.args.line m.turns w)) m.turns w (c.unused.ensures p (own p) m.turns w))

pub returns-in-Some-Second-clause-same : goal.returns-in-Some-Second-clause-same
returns-in-Some-Second-clause-same c = λ t.
    let p = c.args.program.now in
    let m = c.args.self.now in
    second_unused p m.world.locals.below (frames c.pop.new.self) (frames m.stack) _ _ c.args.line c.no_result.result m.turns (shown m.world t) (rw c.in-Some-Second.field-0-is at c.in-Some-Second.ensures.some) c.no_result.ensures

pub returns-in-Some-Right-clause-same : goal.returns-in-Some-Right-clause-same
returns-in-Some-Right-clause-same c = λ t.
    let p = c.args.program.now in
    let m = c.args.self.now in
    right_unused p m.world.locals.below (frames c.pop.new.self) (frames m.stack) _ c.args.line c.no_result-in-Some-Right.result m.turns (shown m.world t) (rw c.in-Some-Right.field-0-is at c.in-Some-Right.ensures.some) c.no_result-in-Some-Right.ensures

pub returns-in-Some-Argument-clause-same : goal.returns-in-Some-Argument-clause-same
returns-in-Some-Argument-clause-same c = λ t.
    let p = c.args.program.now in
    let m = c.args.self.now in
    argument_unused p m.world.locals.below (frames c.pop.new.self) (frames m.stack) _ _ c.args.line c.no_result-in-Some-Argument.result m.turns (shown m.world t) (rw c.in-Some-Argument.field-0-is at c.in-Some-Argument.ensures.some) c.no_result-in-Some-Argument.ensures

pub returns-in-Some-Branch-clause-same : goal.returns-in-Some-Branch-clause-same
returns-in-Some-Branch-clause-same c = λ t.
    let p = c.args.program.now in
    let m = c.args.self.now in
    branch_unused p m.world.locals.below (frames c.pop.new.self) (frames m.stack) _ _ _ c.args.line c.no_result-in-Some-Branch.result m.turns (shown m.world t) (rw c.in-Some-Branch.field-0-is at c.in-Some-Branch.ensures.some) c.no_result-in-Some-Branch.ensures

pub returns-in-Some-Test-clause-same : goal.returns-in-Some-Test-clause-same
returns-in-Some-Test-clause-same c = λ t.
    let p = c.args.program.now in
    let m = c.args.self.now in
    test_unused p m.world.locals.below (frames c.pop.new.self) (frames m.stack) _ c.args.line c.no_result-in-Some-Test.result m.turns (shown m.world t) (rw c.in-Some-Test.field-0-is at c.in-Some-Test.ensures.some) c.no_result-in-Some-Test.ensures

pub returns-in-Some-Switch-clause-same : goal.returns-in-Some-Switch-clause-same
returns-in-Some-Switch-clause-same c = λ t.
    let p = c.args.program.now in
    let m = c.args.self.now in
    switch_unused p m.world.locals.below (frames c.pop.new.self) (frames m.stack) _ c.args.line c.no_result-in-Some-Switch.result m.turns (shown m.world t) (rw c.in-Some-Switch.field-0-is at c.in-Some-Switch.ensures.some) c.no_result-in-Some-Switch.ensures

pub returns-in-Some-Return-clause-same : goal.returns-in-Some-Return-clause-same
returns-in-Some-Return-clause-same c = λ t.
    let p = c.args.program.now in
    let m = c.args.self.now in
    return_unused p m.world.locals.below (frames c.pop.new.self) (frames m.stack) _ c.args.line c.no_result-in-Some-Return.result m.turns (shown m.world t) (rw c.in-Some-Return.field-0-is at c.in-Some-Return.ensures.some) c.no_result-in-Some-Return.ensures

pub returns-in-Some-Fill-clause-same : goal.returns-in-Some-Fill-clause-same
returns-in-Some-Fill-clause-same c = λ t.
    let p = c.args.program.now in
    let m = c.args.self.now in
    fill_unused p m.world.locals.below (frames c.pop.new.self) (frames m.stack) _ _ c.args.line c.no_result-in-Some-Fill.result m.turns (shown m.world t) (rw c.in-Some-Fill.field-0-is at c.in-Some-Fill.ensures.some) c.no_result-in-Some-Fill.ensures

pub returns-in-Some-Activation-clause-same : goal.returns-in-Some-Activation-clause-same
returns-in-Some-Activation-clause-same c = λ t.
    let p = c.args.program.now in
    let m = c.args.self.now in
    body_unused p m.world.locals.below (frames c.pop.new.self) (frames m.stack) _ _ _ _ c.args.line c.stray-in-Some-Activation.result m.turns (shown m.world t) (rw c.in-Some-Activation.field-0-is at c.in-Some-Activation.ensures.some) c.stray-in-Some-Activation.ensures
