use Rattle.std.proofs.Common.{sym}
use Rattle.c_types.proofs.Insides.{basic_depth}
use Rattle.c_types.proofs.type_table.TypeTable.depth.Goals as goal

pub returns-then-id-lt-BASIC-clause-is : goal.returns-then-id-lt-BASIC-clause-is
returns-then-id-lt-BASIC-clause-is c = rw c.basic_type-basic.ensures.means (sym (basic_depth c.args.id c.if-id-lt-BASIC.true))
