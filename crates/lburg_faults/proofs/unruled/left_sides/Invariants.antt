use Rattle.std.proofs.Common.{map, take}
use Rattle.lcc_text.specs.Names.{bytes_of}
use Rattle.lburg_lines.specs.Grammar.{rule_of}
use Rattle.lburg_faults.specs.Ruling.{lefts_of}
use Rattle.lburg_faults.proofs.TextNames.{SameNames}
use Rattle.lburg_faults.proofs.unruled.left_sides.Given as goal

abbrev pub invariant-loop-rule : goal.invariant-loop-rule
invariant-loop-rule l = SameNames (bytes_of l.names) (lefts_of (map rule_of (take l.rule-index l.rules)))
