use Rattle.std.proofs.Common.{◌≡◌, ◌+◌, length}
use Rattle.c_worlds.specs.Programs.{unit_of}
use Rattle.lowered_data.specs.Data.{HaveHomes, image}
use Rattle.lowered_data.proofs.homes.text_homes.Given as goal

abbrev pub invariant-loop-text : goal.invariant-loop-text
invariant-loop-text l = (HaveHomes (image (unit_of l.program) l.program.order l.fn.storage.objects) 0 l.homes × (length l.homes ≡ length l.fn.homes + l.text-index)) × (l.storage ≡ l.fn.storage)
