use Rattle.std.proofs.Common.{drop, map}
use Rattle.c_types.specs.Table.{Table, types}
use Rattle.c_meaning.specs.Each.{EachIs}
use Rattle.c_meaning.specs.Units.{object_seen}
use Rattle.c_units.specs.Wholes.{ObjectHasWords}
use Rattle.c_wholes.proofs.numbers.read_objects.Given as goal

abbrev pub invariant-loop-o : goal.invariant-loop-o
invariant-loop-o l = (t : Table) → EachIs ObjectHasWords (map (object_seen (types t)) (drop l.o-index l.objects)) → EachIs ObjectHasWords (map (object_seen (types t)) l.objects)
