use Rattle.std.proofs.Common.{drop}
use Rattle.c_types.specs.Table.{fields_at}
use Rattle.c_types.proofs.Laid.{IsLaying}
use Rattle.c_types.proofs.type_table.TypeTable.lay.Given as goal

abbrev pub invariant-loop-member : goal.invariant-loop-member
invariant-loop-member l = IsLaying l.laying l.is_union (fields_at l.self (drop l.member-index l.members)) (fields_at l.self l.members) (drop l.member-index l.members) l.members
