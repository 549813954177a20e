use Rattle.std.proofs.Common.{arith}
use Rattle.c_types.proofs.Below.{below_at}
use Rattle.c_types.proofs.type_table.TypeTable.are_kept.Goals as goal

pub is_kept-requires : goal.is_kept-requires
is_kept-requires c = below_at _ _ _ _ c.requires (omega arith)
