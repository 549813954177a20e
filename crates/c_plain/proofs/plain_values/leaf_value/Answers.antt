use Rattle.c_meaning.specs.CoreTrees.{cores_of, line_of}
use Rattle.c_worlds.specs.Programs.{known, setting_of}
use Rattle.c_plain.proofs.Steps.{does_of, leaf_goes, leaf_other, strays}
use Rattle.c_plain.proofs.plain_values.leaf_value.Goals as goal

pub returns-in-None-clause-comes : goal.returns-in-None-clause-comes
returns-in-None-clause-comes c = λ calls.
    leaf_goes (setting_of c.args.program.now calls) (known c.args.program.now) c.args.e.now c.args.world.now c.args.world.now c.leaf.result c.in-None.ensures.none (c.leaf.ensures calls)

pub returns-in-Some-clause-comes : goal.returns-in-Some-clause-comes
returns-in-Some-clause-comes c = λ calls.
    strays (does_of (setting_of c.args.program.now calls) (known c.args.program.now) c.args.e.now) c.args.world.now (line_of c.args.e.now) c.stray.result c.stray.ensures
    (λ k w. leaf_other (setting_of c.args.program.now calls) (known c.args.program.now) c.args.e.now c.in-Some.field-0.0.now (cores_of c.in-Some.field-0.1.now) k w c.in-Some.ensures.some c.requires.shape)
