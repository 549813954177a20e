use Rattle.std.proofs.Common.{◌≡◌, ◌≤◌, ◌+◌, length}
use Rattle.lcc_text.specs.Lines.{lines_of}
use Rattle.lburg_faults.proofs.reading.last_line.Given as goal

abbrev pub invariant-loop-behind : goal.invariant-loop-behind
invariant-loop-behind l = record {
  few : l.number + length l.rest ≤ length l.text;
  counted : l.number + length (lines_of l.rest) ≡ length (lines_of l.text);
}

abbrev pub decreases-loop-behind : goal.decreases-loop-behind
decreases-loop-behind l = length l.rest
