use Rattle.std.proofs.Common.{◌≡◌, drop, map}
use Rattle.c_meaning.specs.Units.{object_seen}
use Rattle.c_runs.specs.Run.{with_objects_of}
use Rattle.c_runs.specs.Worlds.{World as RunWorld}
use Rattle.c_types.specs.Table.{tags, types as types_in}
use Rattle.c_filling.specs.Starts.{kept_in}
use Rattle.c_filling.proofs.starting.make_objects.Given as goal

abbrev pub invariant-loop-object : goal.invariant-loop-object
invariant-loop-object l = (w : RunWorld) →
    with_objects_of (tags l.types) (map (object_seen (types_in l.types)) l.objects) (kept_in l.fn.storage w)
    ≡ with_objects_of (tags l.types) (map (object_seen (types_in l.types)) (drop l.object-index l.objects)) (kept_in l.storage w)
