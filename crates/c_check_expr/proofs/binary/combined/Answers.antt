use Rattle.c_types.specs.Table.{type_at}
use Rattle.c_check_expr.proofs.BinaryNode.{equal_operands}
use Rattle.c_check_expr.proofs.binary.combined.Goals as goal

pub compared-requires-clause-fits : goal.compared-requires-clause-fits
compared-requires-clause-fits c = equal_operands (type_at c.args.types.now) c.args.v c.args.w (rw c.in-Equal.is at c.requires.compares)

pub compared-requires-in-NotEqual-clause-fits : goal.compared-requires-in-NotEqual-clause-fits
compared-requires-in-NotEqual-clause-fits c = equal_operands (type_at c.args.types.now) c.args.v c.args.w (rw c.in-NotEqual.is at c.requires.compares)
