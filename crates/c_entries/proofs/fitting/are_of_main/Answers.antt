use Rattle.c_types.specs.Table.{type_at}
use Rattle.c_entries.proofs.Fits.{not_two}
use Rattle.c_entries.proofs.fitting.are_of_main.Goals as goal

pub returns-then-parameters-ne2 : goal.returns-then-parameters-ne2
returns-then-parameters-ne2 c place = not_two c.args.old (type_at c.args.types.now) c.args.parameters.now place c.if-parameters-ne2.true
