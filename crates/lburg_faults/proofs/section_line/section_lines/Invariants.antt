use Rattle.std.proofs.Common.{◌≤◌, ◌+◌, List, ◌++◌, length}
use Rattle.lcc_text.specs.Lines.{lines_of}
use Rattle.lburg_lines.specs.declared.section.Section.TheVariants.{Head}
use Rattle.lburg_lines.specs.Sections.{TokenLine, AreLinesFrom}
use Rattle.lburg_faults.specs.Reads.{lines_view}
use Rattle.lburg_faults.proofs.section_line.section_lines.Given as goal

abbrev pub invariant-loop-line : goal.invariant-loop-line
invariant-loop-line l = record {
  few : length l.lines.items + length l.rest ≤ length l.text;
  are : (all : List TokenLine) → AreLinesFrom l.section (lines_of l.rest) all → AreLinesFrom Head (lines_of l.text) (lines_view l.lines.items ++ all);
}

abbrev pub decreases-loop-line : goal.decreases-loop-line
decreases-loop-line l = length l.rest
