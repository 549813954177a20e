use Rattle.std.proofs.Common.{◌≡◌, List, map, drop}
use Rattle.c_types.specs.CType.{CType}
use Rattle.c_meaning.specs.Units.{object_seen}
use Rattle.c_runs.specs.Calls as calls
use Rattle.c_worlds.proofs.defining.has_object.Given as goal

abbrev pub invariant-loop-object : goal.invariant-loop-object
invariant-loop-object l =
    (types : List CType)
    → calls.has_object (map (object_seen types) l.objects) l.name ≡ calls.has_object (map (object_seen types) (drop l.object-index l.objects)) l.name
