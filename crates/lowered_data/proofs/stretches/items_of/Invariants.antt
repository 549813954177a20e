use Rattle.std.proofs.Common.{◌-◌}
use Rattle.c_worlds.specs.Programs.{unit_of}
use Rattle.lowered_data.specs.Data.{Reach, bytes_of, image}
use Rattle.lowered_data.proofs.stretches.items_of.Given as goal

abbrev pub invariant-loop-from : goal.invariant-loop-from
invariant-loop-from l = Reach (image (unit_of l.program) l.program.order l.reader.storage.now.objects) (bytes_of l.reader.storage.now.objects l.reader.object) l.items l.from

abbrev pub decreases-loop-from : goal.decreases-loop-from
decreases-loop-from l = l.reader.object.size - l.from
