use Rattle.std.proofs.Common.{◌≡◌, ◌<◌, length}
use Rattle.c_types.specs.CType.{depth}
use Rattle.c_types.specs.Constness.{has_const}
use Rattle.c_types.specs.Table.{tags, type_at}
use Rattle.c_types.proofs.type_table.TypeTable.has_const.Given as goal

abbrev pub invariant-loop-id : goal.invariant-loop-id
invariant-loop-id l = record {
  within : l.part < length l.self.forms;
  same : has_const (tags l.self) (type_at l.self l.id) ≡ has_const (tags l.self) (type_at l.self l.part);
}

abbrev pub decreases-loop-id : goal.decreases-loop-id
decreases-loop-id l = depth (type_at l.self l.part)
