use Rattle.std.proofs.Common.{◌≡◌, ◌+◌, length}
use Rattle.call_tests.proofs.arenas.fill.Given as goal

abbrev pub invariant-loop-number : goal.invariant-loop-number
invariant-loop-number g l = length l.arena.values ≡ length l.initial.arena.values + l._number
