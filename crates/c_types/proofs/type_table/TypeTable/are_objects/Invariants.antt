use Rattle.std.proofs.Common.{◌≡◌, drop}
use Rattle.c_types.specs.Table.{are_objects, fields_at}
use Rattle.c_types.specs.Facts.{AreBounded}
use Rattle.c_types.proofs.type_table.TypeTable.are_objects.Given as goal

abbrev pub invariant-loop-member : goal.invariant-loop-member
invariant-loop-member l = record {
  objects : are_objects (fields_at l.self (drop l.member-index l.members)) ≡ are_objects (fields_at l.self l.members);
  bounded : AreBounded (fields_at l.self (drop l.member-index l.members)) → AreBounded (fields_at l.self l.members);
}
