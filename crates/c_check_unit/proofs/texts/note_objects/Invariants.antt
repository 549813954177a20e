use Rattle.std.proofs.Common.{◌≡◌, drop, map}
use Rattle.c_types.specs.Table.{Table}
use Rattle.c_check_decl.specs.Declares.{defined_in}
use Rattle.c_units.specs.Wholes.{object_literals, once}
use Rattle.c_check_unit.proofs.texts.note_objects.Given as goal

abbrev pub invariant-loop-o : goal.invariant-loop-o
invariant-loop-o l = (t : Table) → once l.texts (object_literals (map (defined_in t) (drop l.o-index l.list))) ≡ once l.fn.texts (object_literals (map (defined_in t) l.list))
