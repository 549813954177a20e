-- What is written on the lines of a printed description.
use Rattle.std.proofs.Common.{ℕ, suc, ℤ, pos, negsuc, Option, Some, None, List, [], ◌∷◌, decimal}
use Rattle.lburg_lines.specs.Numbers.{MNumber, Plain, Minus}
use Rattle.lburg_lines.specs.NamedTree.{MNamed, Alone, Over, Both}
use Rattle.lburg_lines.specs.Grammar.{MLine, Divides, Declared, Ruled, MRule, MCost, Fixed, Between, Starts, Declares, MNumbered}
use Rattle.lburg_model.specs.declared.range.Range.{Range}
use Rattle.lburg_model.specs.declared.rule.Rule.{Rule}
use Rattle.lburg_model.specs.declared.terminal.Terminal.{Terminal}
use Rattle.lburg_model.specs.Pattern.{MPattern, PHole, PLeaf, POne, PTwo, pattern_of}
use Rattle.lburg_model.specs.Description.{MDescription}
use Rattle.lburg_model.specs.NamesOf.{operator_name, nonterminal_name}

-- the pattern with names
abbrev pub tree_in : MDescription → MPattern → MNamed
tree_in d (PHole n) = Alone (nonterminal_name d n)
tree_in d (PLeaf op) = Alone (operator_name d op)
tree_in d (POne op p) = Over (operator_name d op) (tree_in d p)
tree_in d (PTwo op p q) = Both (operator_name d op) (tree_in d p) (tree_in d q)

abbrev pub number_in : ℤ → MNumber
number_in (pos n) = Plain (decimal n)
number_in (negsuc n) = Minus (decimal (suc n))

abbrev pub cost_in : ℕ → Option Range → MCost
cost_in cost None = Fixed (decimal cost)
cost_in cost (Some range) = Between (number_in range.low) (number_in range.high)

abbrev pub rule_in : MDescription → Rule → MRule
rule_in d r = record {
  left = nonterminal_name d r.left;
  tree = tree_in d (pattern_of r.pattern);
  template = r.template;
  cost = cost_in r.cost r.range;
}

abbrev pub terminal_in : Terminal → MNumbered
terminal_in t = (t.name, decimal t.number)

abbrev pub rules_written : MDescription → List Rule → List MLine
rules_written d [] = []
rules_written d (r ∷ rs) = Ruled (rule_in d r) ∷ rules_written d rs

-- the lines of the terminals, and other lines behind them
abbrev pub terminals_then : List Terminal → List MLine → List MLine
terminals_then [] ws = ws
terminals_then (t ∷ ts) ws = Declared (Declares (terminal_in t ∷ [])) ∷ terminals_then ts ws

abbrev pub written_in : MDescription → List MLine
written_in d = Declared (Starts (nonterminal_name d d.start)) ∷ terminals_then d.terminals (Divides ∷ rules_written d d.rules)
