use Rattle.std.proofs.Common.{◌≤◌, ◌-◌, ℕ, length}
use Rattle.c_lexer.specs.Chains.{Chain}
use Rattle.c_lexer.specs.Gaps.{gap, IsPlace}
use Rattle.c_lexer.proofs.gap.skip_gaps.Given as goal

abbrev pub invariant-loop-behind : goal.invariant-loop-behind
invariant-loop-behind l = record {
  chain : (n : ℕ) × Chain (gap l.source) n l.fn.place l.here;
  further : l.fn.place.offset ≤ l.here.offset;
  place : IsPlace l.source l.here;
}

abbrev pub decreases-loop-behind : goal.decreases-loop-behind
decreases-loop-behind l = length l.source - l.here.offset
