use Rattle.std.proofs.Common.{◌≡◌, ◌+◌, ◌*◌, drop}
use Rattle.c_types.specs.CType.{weight, parameters_weight, all_weight}
use Rattle.std.specs.Prelude.{All}
use Rattle.c_types.specs.Compatible.{all_compatible}
use Rattle.c_types.specs.Facts.{IsFound}
use Rattle.c_types.specs.Table.{parameters_in, type_at, types, types_in}
use Rattle.c_types.proofs.type_table.TypeTable.+compatible.Given as goal

abbrev pub decreases-are_compatible : goal.decreases-are_compatible
decreases-are_compatible l = 5 * weight (type_at l.self.now l.a.0) + 2

abbrev pub decreases-are_found_compatible : goal.decreases-are_found_compatible
decreases-are_found_compatible l = 5 * weight (type_at l.self.now l.a) + 1

abbrev pub decreases-are_kinds_compatible : goal.decreases-are_kinds_compatible
decreases-are_kinds_compatible l = 5 * weight (type_at l.self.now l.a)

abbrev pub decreases-are_parameters_compatible : goal.decreases-are_parameters_compatible
decreases-are_parameters_compatible l = 5 * parameters_weight (parameters_in (types l.self.now) l.a.now l.more) + 4

abbrev pub decreases-are_all_compatible : goal.decreases-are_all_compatible
decreases-are_all_compatible l = 5 * all_weight (types_in (types l.self.now) l.a.now) + 3

abbrev pub invariant-are_all_compatible-loop-i : goal.invariant-are_all_compatible-loop-i
invariant-are_all_compatible-loop-i l = record {
  all : all_compatible (types_in (types l.self) (drop l.i l.a)) (types_in (types l.self) (drop l.i l.b)) ≡ all_compatible (types_in (types l.self) l.a) (types_in (types l.self) l.b);
  found : All (IsFound l.self) l.found;
}
