use Rattle.std.proofs.Common.{◌≡◌, ◌≤◌, drop, max}
use Rattle.c_types.specs.CType.{greatest_depth}
use Rattle.c_types.specs.Table.{types, types_in}
use Rattle.c_types.proofs.type_table.TypeTable.greatest_depth.Given as goal

abbrev pub invariant-loop-id : goal.invariant-loop-id
invariant-loop-id l = record {
  greatest : max l.greatest (greatest_depth (types_in (types l.self) (drop l.id-index l.ids))) ≡ greatest_depth (types_in (types l.self) l.ids);
  bound : l.greatest ≤ 500;
}
