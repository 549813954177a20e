-- What the lines of the tables stand for.
use Rattle.std.specs.Prelude.{ℕ, List, Option, None}
use Rattle.std.specs.Borrow.{Bor}
use Rattle.lburg_model.specs.declared.range.Range.{Range}
use Rattle.lburg_model.specs.declared.terminal.Terminal.{Terminal}
use Rattle.lburg_model.specs.Pattern.{MPattern, PHole, PLeaf, POne, PTwo}
use Rattle.vcode.specs.RuleSets.{Row}
use Rattle.mips_rules.specs.declared.rule_line.Form.{Form}
use Rattle.mips_rules.specs.declared.rule_line.Form.TheVariants.{Chain, Leaf, Unary, Binary}
use Rattle.mips_rules.specs.declared.rule_line.RuleLine.{RuleLine}

abbrev pub terminal_of : Bor (List ℕ) × ℕ × Option ℕ → Terminal
terminal_of line = record { name = line.0.now; number = line.1; arity = line.2 }

abbrev pub form_pattern : Form → MPattern
form_pattern (Chain n) = PHole n
form_pattern (Leaf op) = PLeaf op
form_pattern (Unary op a) = POne op (PHole a)
form_pattern (Binary op a b) = PTwo op (PHole a) (PHole b)

abbrev pub row_in : RuleLine → Row
row_in line = record { left = line.left; pattern = form_pattern line.form; template = line.template.now }

abbrev pub cost_in : RuleLine → ℕ
cost_in line = line.cost

-- no line has a range
abbrev pub range_in : RuleLine → Option Range
range_in line = None
