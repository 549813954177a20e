-- The printed description: a line for the start symbol, one for each terminal, a line `%%`, and a line for each rule.
-- Numbers are decimal, a template stands as it was written, and a tree has no blanks.
use Rattle.std.specs.Prelude.{ℕ, Option, Some, None, List, ◌++◌, flat_map, codes, decimal}
use Rattle.std.specs.Fmt.{signed_decimal}
use Rattle.lburg_model.specs.declared.range.Range.{Range}
use Rattle.lburg_model.specs.declared.rule.Rule.{Rule}
use Rattle.lburg_model.specs.declared.terminal.Terminal.{Terminal}
use Rattle.lburg_model.specs.Pattern.{MPattern, PHole, PLeaf, POne, PTwo, pattern_of}
use Rattle.lburg_model.specs.Description.{MDescription}
use Rattle.lburg_model.specs.NamesOf.{operator_name, nonterminal_name}

abbrev pub start_line : MDescription → List ℕ
start_line d = codes "%start " ++ nonterminal_name d d.start ++ codes "\n"

abbrev pub terminal_line : Terminal → List ℕ
terminal_line t = codes "%term " ++ t.name ++ codes "=" ++ decimal t.number ++ codes "\n"

abbrev pub terminal_lines : List Terminal → List ℕ
terminal_lines ts = flat_map terminal_line ts

abbrev pub pattern_text : MDescription → MPattern → List ℕ
pattern_text d (PHole n) = nonterminal_name d n
pattern_text d (PLeaf op) = operator_name d op
pattern_text d (POne op p) = operator_name d op ++ codes "(" ++ pattern_text d p ++ codes ")"
pattern_text d (PTwo op p q) = operator_name d op ++ codes "(" ++ pattern_text d p ++ codes "," ++ pattern_text d q ++ codes ")"

abbrev pub cost_text : ℕ → Option Range → List ℕ
cost_text cost None = decimal cost
cost_text cost (Some range) = codes "range(a," ++ signed_decimal range.low ++ codes "," ++ signed_decimal range.high ++ codes ")"

abbrev pub rule_line : MDescription → Rule → List ℕ
rule_line d r =
    nonterminal_name d r.left ++ codes ": " ++ pattern_text d (pattern_of r.pattern) ++ codes " \"" ++ r.template ++ codes "\" " ++ cost_text r.cost r.range ++ codes "\n"

abbrev pub rule_lines : MDescription → List Rule → List ℕ
rule_lines d rs = flat_map (rule_line d) rs

abbrev pub printed : MDescription → List ℕ
printed d = start_line d ++ terminal_lines d.terminals ++ codes "%%\n" ++ rule_lines d d.rules
