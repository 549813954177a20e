use Rattle.std.proofs.Common.{◌-◌, ◌≤◌, length, take}
use Rattle.lcc_text.specs.Classes.{AllIn}
use Rattle.lcc_text.proofs.run.run_len.Given as goal

abbrev pub invariant-loop-n : goal.invariant-loop-n
invariant-loop-n g l = (l.n ≤ length l.bytes) × AllIn (g.C.ByteClass.members l.class) (take l.n l.bytes)

abbrev pub decreases-loop-n : goal.decreases-loop-n
decreases-loop-n g l = length l.bytes - l.n
