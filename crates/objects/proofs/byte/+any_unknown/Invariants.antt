use Rattle.std.proofs.Common.{length}
use Rattle.objects.proofs.byte.+any_unknown.Given as goal

abbrev pub decreases-any_unknown : goal.decreases-any_unknown
decreases-any_unknown l = length l.bytes.now
