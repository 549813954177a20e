use Rattle.std.proofs.Common.{refl, ap, arith}
use Rattle.lburg_lines.specs.Grammar.{line_of, rule_of}
use Rattle.lburg_faults.proofs.known.Known.count.Goals as goal

pub returns-in-Rule : goal.returns-in-Rule
returns-in-Rule c = record {
  terminals = refl;
  numbers = refl;
  arities = refl;
  nonterminals = refl;
  start = refl;
  rule = λ r e h. (let k = c.saturating_add-self.ensures in omega arith);
  other = λ h. absurd (h (rule_of c.in-Rule.field-0) (ap line_of c.in-Rule.is));
}
