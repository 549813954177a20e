use Rattle.std.proofs.Common.{◌≡◌, ◌<◌, length}
use Rattle.c_types.specs.CType.{depth}
use Rattle.c_types.specs.Constness.{is_const}
use Rattle.c_types.specs.Table.{type_at}
use Rattle.c_types.proofs.type_table.TypeTable.is_const.Given as goal

abbrev pub invariant-loop-id : goal.invariant-loop-id
invariant-loop-id l = record {
  within : l.part < length l.self.forms;
  same : is_const (type_at l.self l.id) ≡ is_const (type_at l.self l.part);
}

abbrev pub decreases-loop-id : goal.decreases-loop-id
decreases-loop-id l = depth (type_at l.self l.part)
