use Rattle.std.proofs.Common.{take, map}
use Rattle.lcc_text.specs.Names.{bytes_of}
use Rattle.lburg_lines.specs.Grammar.{rule_of}
use Rattle.lburg_grammar.specs.Places.{RulesFor}
use Rattle.lburg_grammar.proofs.resolved_rule.resolved_rules.Given as goal

abbrev pub invariant-loop-line : goal.invariant-loop-line
invariant-loop-line l = RulesFor (bytes_of l.terminals) (bytes_of l.nonterminals) (map rule_of (take l.line-index l.lines)) l.rules.items
