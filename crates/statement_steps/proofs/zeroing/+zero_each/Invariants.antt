-- The zeros that are left fall.
use Rattle.statement_steps.proofs.zeroing.+zero_each.Given as goal

abbrev pub decreases-zero_each : goal.decreases-zero_each
decreases-zero_each l = l.count
