use Rattle.std.proofs.Common.{length}
use Rattle.switch_tables.proofs.search.+label_at.Given as goal

abbrev pub decreases-label_at : goal.decreases-label_at
decreases-label_at l = length l.tables.now
