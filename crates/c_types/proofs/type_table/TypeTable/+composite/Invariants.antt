use Rattle.std.proofs.Common.{◌≡◌, ◌+◌, ◌*◌, true, length, drop}
use Rattle.c_types.specs.CType.{weight, parameters_weight, all_weight}
use Rattle.c_types.specs.Composite.{all_composite}
use Rattle.c_types.specs.Facts.{AreMade, function_of, items_of}
use Rattle.c_types.specs.Table.{Grows, AreBelow, parameters_in, type_at, types, types_in}
use Rattle.c_types.proofs.Composed.{joined}
use Rattle.c_types.proofs.type_table.TypeTable.+composite.Given as goal

abbrev pub decreases-composite_under : goal.decreases-composite_under
decreases-composite_under l = 7 * weight (type_at l.self.now l.a.0) + 3

abbrev pub decreases-noted_composite : goal.decreases-noted_composite
decreases-noted_composite l = 7 * weight (type_at l.self.now l.x) + 2

abbrev pub decreases-kinds_composite : goal.decreases-kinds_composite
decreases-kinds_composite l = 7 * weight (type_at l.self.now l.x) + 1

abbrev pub decreases-functions_composite : goal.decreases-functions_composite
decreases-functions_composite l = 7 * weight (function_of l.self.now l.a)

abbrev pub decreases-parameters_composite : goal.decreases-parameters_composite
decreases-parameters_composite l = 7 * parameters_weight (parameters_in (types l.self.now) (items_of l.a) true) + 6

abbrev pub decreases-all_composite : goal.decreases-all_composite
decreases-all_composite l = 7 * all_weight (types_in (types l.self.now) l.a.now) + 5

abbrev pub decreases-parameter_composite : goal.decreases-parameter_composite
decreases-parameter_composite l = 7 * weight (type_at l.self.now l.a) + 4

abbrev pub invariant-all_composite-loop-i : goal.invariant-all_composite-loop-i
invariant-all_composite-loop-i l = record {
  grows : Grows l.fn.self l.self;
  made : AreMade l.self l.made;
  below : AreBelow (length l.self.forms) l.ids.items;
  means : joined (types_in (types l.self) l.ids.items) (all_composite (types_in (types l.fn.self) (drop l.i l.a)) (types_in (types l.fn.self) (drop l.i l.b))) ≡ all_composite (types_in (types l.fn.self) l.a) (types_in (types l.fn.self) l.b);
}
