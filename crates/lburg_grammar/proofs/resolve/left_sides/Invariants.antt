use Rattle.std.proofs.Common.{take, map}
use Rattle.lcc_text.specs.Names.{bytes_of}
use Rattle.lburg_lines.specs.Grammar.{rule_of}
use Rattle.lburg_faults.specs.Ruling.{lefts_of}
use Rattle.lburg_grammar.specs.FirstUses.{AreFirsts}
use Rattle.lburg_grammar.proofs.resolve.left_sides.Given as goal

abbrev pub invariant-loop-rule : goal.invariant-loop-rule
invariant-loop-rule l = AreFirsts (lefts_of (map rule_of (take l.rule-index l.rules))) (bytes_of l.names)
