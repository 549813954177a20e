use Rattle.std.proofs.Common.{refl}
use Rattle.c_values.specs.Valued.{qualified_in}
use Rattle.c_values.proofs.Lower.{deep_pointer}
use Rattle.c_values.specs.Stays.{grows_on}
use Rattle.c_values.proofs.forming.pointer_type.Goals as goal

pub returns-in-Ok-clause-grows : goal.returns-in-Ok-clause-grows
returns-in-Ok-clause-grows c = grows_on c.args.types.now c.qualified.new.self c.add.new.self c.qualified.ensures.grows (c.in-Ok.ensures.grows refl)

pub returns-in-Err-clause-deep : goal.returns-in-Err-clause-deep
returns-in-Err-clause-deep c =
    let r = c.type_refusal.ensures in
    deep_pointer c.qualified.new.self c.in_ok-of.of (qualified_in c.args.types.now c.args.to) c.args.line c.in-Err.fault c.type_refusal.result c.in_ok-of.ensures.means c.in-Err.ensures.refused r.large r.deep r.other
