use Rattle.c_runs.specs.Expressions.{assignment, changing, new_value, old_value}
use Rattle.c_worlds.specs.Programs.{known, setting_of, tree}
use Rattle.c_worlds.specs.Shown.{giving}
use Rattle.c_acts.proofs.Given.{comes_given}
use Rattle.c_acts.proofs.binary_acts.binary_act.Goals as goal

pub returns-in-Assign-clause-comes : goal.returns-in-Assign-clause-comes
returns-in-Assign-clause-comes c =
    let left = giving (tree c.args.program.now c.args.parts.now.left.now) c.args.parts.now.left_value in
    let right = giving (tree c.args.program.now c.args.parts.now.right.now) c.args.parts.now.right_value in
    λ calls. rw (c.given.ensures, ← c.e.view_is, c.in-Assign.is)
    (comes_given (λ k w. assignment (setting_of c.args.program.now calls) (known c.args.program.now c.e.inside.of) c.e.inside.line left right k w)
    c.args.world.now c.assign.new.world c.assign.result (c.assign.ensures.gets calls))

pub returns-in-Change-clause-comes : goal.returns-in-Change-clause-comes
returns-in-Change-clause-comes c =
    let left = giving (tree c.args.program.now c.args.parts.now.left.now) c.args.parts.now.left_value in
    let right = giving (tree c.args.program.now c.args.parts.now.right.now) c.args.parts.now.right_value in
    λ calls. rw (c.given-in-Change.ensures, ← c.e.view_is, c.in-Change.is)
    (comes_given (λ k w. changing (setting_of c.args.program.now calls) c.in-Change.by new_value c.e.inside.line left right k w)
    c.args.world.now c.change_place.new.world c.change_place.result (c.change_place.ensures.gets calls))

pub returns-in-Postfix-clause-comes : goal.returns-in-Postfix-clause-comes
returns-in-Postfix-clause-comes c =
    let left = giving (tree c.args.program.now c.args.parts.now.left.now) c.args.parts.now.left_value in
    let right = giving (tree c.args.program.now c.args.parts.now.right.now) c.args.parts.now.right_value in
    λ calls. rw (c.given-in-Postfix.ensures, ← c.e.view_is, c.in-Postfix.is)
    (comes_given (λ k w. changing (setting_of c.args.program.now calls) c.in-Postfix.by old_value c.e.inside.line left right k w)
    c.args.world.now c.change_place-in-Postfix.new.world c.change_place-in-Postfix.result (c.change_place-in-Postfix.ensures.gets calls))
