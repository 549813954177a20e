use Rattle.std.proofs.Common.{◌≡◌, drop}
use Rattle.c_types.specs.Constness.{const_known, some_const}
use Rattle.c_types.specs.Table.{member_types, tags, types}
use Rattle.c_types.proofs.type_table.TypeTable.some_const.Given as goal

abbrev pub invariant-loop-member : goal.invariant-loop-member
invariant-loop-member l = some_const (const_known (tags l.self)) (member_types (types l.self) (drop l.member-index l.members)) ≡ some_const (const_known (tags l.self)) (member_types (types l.self) l.members)
