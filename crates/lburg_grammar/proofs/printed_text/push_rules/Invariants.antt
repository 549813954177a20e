use Rattle.std.proofs.Common.{◌≡◌, ◌++◌, take}
use Rattle.lburg_grammar.specs.Printed.{rule_lines}
use Rattle.lburg_grammar.proofs.printed_text.push_rules.Given as goal

abbrev pub invariant-loop-rule : goal.invariant-loop-rule
invariant-loop-rule l = l.out ≡ l.fn.out ++ rule_lines l.d (take l.rule-index l.rules)
