use Rattle.std.proofs.Common.{arith}
use Rattle.c_types.proofs.Below.{below_at}
use Rattle.c_types.proofs.type_table.TypeTable.greatest_depth.Goals as goal

pub depth-requires : goal.depth-requires
depth-requires c = below_at _ _ _ _ c.requires (omega arith)
