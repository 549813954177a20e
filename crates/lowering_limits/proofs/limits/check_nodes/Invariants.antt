use Rattle.std.proofs.Common.{take}
use Rattle.c_types.specs.Table.{Table}
use Rattle.lowering_limits.specs.Limits.{AreAtMost, most}
use Rattle.lowering_limits.specs.Sizes.{node_counts_in}
use Rattle.lowering_limits.proofs.limits.check_nodes.Given as goal

abbrev pub invariant-loop-number : goal.invariant-loop-number
invariant-loop-number l = (t : Table) → AreAtMost most (take l.number (node_counts_in t l.functions))
