use Rattle.std.proofs.Common.{length}
use Rattle.objects.proofs.byte.+any_part.Given as goal

abbrev pub decreases-any_part : goal.decreases-any_part
decreases-any_part l = length l.bytes.now
