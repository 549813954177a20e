use Rattle.std.proofs.Common.{ap}
use Rattle.c_meaning.specs.CoreTrees.{line_of}
use Rattle.c_worlds.specs.Programs.{known, setting_of}
use Rattle.c_acts.specs.Tests.{truth_of}
use Rattle.c_plain.proofs.Choices.{test_goes}
use Rattle.c_plain.proofs.plain_values.plain_test.Goals as goal

pub returns-clause-comes : goal.returns-clause-comes
returns-clause-comes c = λ calls.
    test_goes (setting_of c.args.program.now calls) (known c.args.program.now) c.args.e.now c.e.inside.line c.args.world.now c.tested.new.world (truth_of c.tested.result) (ap line_of c.e.view_is) (c.tested.ensures.comes calls)
