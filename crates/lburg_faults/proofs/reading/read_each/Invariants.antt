use Rattle.std.proofs.Common.{take}
use Rattle.lburg_faults.specs.Terminals.{declared_in, names_of}
use Rattle.lburg_faults.specs.Knowing.{Knows}
use Rattle.lburg_faults.specs.Reads.{lines_view, AreRulesOf}
use Rattle.lburg_faults.proofs.TextFirst.{FineUpTo}
use Rattle.lburg_faults.proofs.reading.read_each.Given as goal

abbrev pub invariant-loop-i : goal.invariant-loop-i
invariant-loop-i l = record {
  fine : FineUpTo (lines_view l.lines) l.i;
  knows : Knows (names_of (declared_in (lines_view l.lines))) (take l.i (lines_view l.lines)) l.known;
  rules_of : AreRulesOf (take l.i (lines_view l.lines)) l.rules;
}
