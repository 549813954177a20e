use Rattle.std.proofs.Common.{◌+◌, ◌≤◌, ◌<◌}
use Rattle.lowered_data.proofs.reader.bytes_end.Given as goal

abbrev pub invariant-loop-place : goal.invariant-loop-place
invariant-loop-place l = (l.from + l.zeros ≤ l.place) × (l.zeros < 8)
