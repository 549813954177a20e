use Rattle.std.proofs.Common.{sym}
use Rattle.mips_machine.proofs.Divisions.{quotient-word}
use Rattle.mips_machine.proofs.operations.divide.Goals as goal

pub returns-in-None-clause-made : goal.returns-in-None-clause-made
returns-in-None-clause-made c =
    (sym c.in-None.ensures.is, quotient-word c.args.x c.args.y c.cast_unsigned.result c.cast_signed.result c.cast_signed-in-None.result c.cast_signed.ensures c.cast_signed-in-None.ensures c.cast_signed.type_inv c.cast_signed-in-None.type_inv c.cast_unsigned.ensures)
