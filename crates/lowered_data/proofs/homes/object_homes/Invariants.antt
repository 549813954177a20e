use Rattle.std.proofs.Common.{◌≡◌, length}
use Rattle.c_worlds.specs.Programs.{unit_of}
use Rattle.lowered_data.specs.Data.{HaveHomes, image}
use Rattle.lowered_data.proofs.homes.object_homes.Given as goal

abbrev pub invariant-loop-object : goal.invariant-loop-object
invariant-loop-object l = (HaveHomes (image (unit_of l.program) l.program.order l.fn.storage.objects) 0 l.homes × (length l.homes ≡ l.object-index)) × (l.storage ≡ l.fn.storage)
