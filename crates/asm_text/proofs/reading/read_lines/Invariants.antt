use Rattle.std.proofs.Common.{◌≤◌, ◌+◌, length}
use Rattle.lcc_text.specs.Lines.{lines_of}
use Rattle.asm_text.proofs.ReadLines.{HasRead}
use Rattle.asm_text.proofs.reading.read_lines.Given as goal

abbrev pub invariant-loop-line : goal.invariant-loop-line
invariant-loop-line l = record {
  read : HasRead l.text l.before (lines_of l.rest) l.assembly;
  few : l.before + length l.rest ≤ length l.text;
}

abbrev pub decreases-loop-line : goal.decreases-loop-line
decreases-loop-line l = length l.rest
