-- The text of a description's tables: a line for the start symbol; for each operator its arity and the rules with it at
-- the root of their patterns; for each rule its cost, the operators that its pattern checks and the nonterminals that it
-- leaves, each with its path; for each nonterminal the chain rules from it. Rules are told by their numbers, from 1.
-- Source: Fraser and Hanson, A Retargetable C Compiler, chapter 14 (what lburg's labeller and reducer look up).
use Rattle.std.specs.Prelude.{ℕ, ◌+◌, Option, Some, None, List, [], ◌∷◌, ◌++◌, codes, decimal, map}
use Rattle.std.specs.Fmt.{signed_decimal}
use Rattle.lburg_model.specs.declared.range.Range.{Range}
use Rattle.lburg_model.specs.declared.rule.Rule.{Rule}
use Rattle.lburg_model.specs.declared.terminal.Terminal.{Terminal}
use Rattle.lburg_model.specs.Pattern.{MPattern, PHole, PLeaf, POne, PTwo, pattern_of}
use Rattle.lburg_model.specs.Description.{MDescription}
use Rattle.lburg_model.specs.NamesOf.{operator_name, nonterminal_name}
use Rattle.lburg_model.specs.CoverText.{spaced}
use Rattle.lburg_tables.specs.Root.{Root, Chain, Operator, places_with}

-- the numbers of the rules with this root
abbrev pub numbers_with : Root → List Rule → List ℕ
numbers_with root rules = map (λ place. place + 1) (places_with root rules)

abbrev pub start_line : MDescription → List ℕ
start_line d = codes "start " ++ nonterminal_name d d.start ++ codes "\n"

abbrev pub arity_text : Option ℕ → List ℕ
arity_text None = codes "-"
arity_text (Some n) = decimal n

-- the line of the operator of this number
abbrev pub operator_line : List Rule → ℕ → Terminal → List ℕ
operator_line rules op t = codes "op " ++ t.name ++ codes " " ++ arity_text t.arity ++ codes ":" ++ spaced (numbers_with (Operator op) rules) ++ codes "\n"

-- the lines of operators, of which the first has this number
abbrev pub operator_lines : List Rule → ℕ → List Terminal → List ℕ
operator_lines rules op [] = []
operator_lines rules op (t ∷ ts) = operator_line rules op t ++ operator_lines rules (op + 1) ts

abbrev pub price_text : ℕ → Option Range → List ℕ
price_text cost None = codes " cost " ++ decimal cost
price_text cost (Some range) = codes " range " ++ signed_decimal range.low ++ codes " " ++ signed_decimal range.high

-- A path: for each operand on the way from the root a digit, 0 for the first and 1 for the second; the root's is a dot.
abbrev pub path_text : List ℕ → List ℕ
path_text [] = codes "."
path_text (step ∷ steps) = step ∷ steps

abbrev pub item_text : List ℕ → List ℕ → List ℕ
item_text path name = codes " " ++ path_text path ++ codes ":" ++ name

-- the operators of a pattern at a path, in preorder
abbrev pub checks_text : MDescription → List ℕ → MPattern → List ℕ
checks_text d path (PHole n) = []
checks_text d path (PLeaf op) = item_text path (operator_name d op)
checks_text d path (POne op p) = item_text path (operator_name d op) ++ checks_text d (path ++ codes "0") p
checks_text d path (PTwo op p q) = item_text path (operator_name d op) ++ checks_text d (path ++ codes "0") p ++ checks_text d (path ++ codes "1") q

-- the nonterminals of a pattern at a path, in preorder
abbrev pub leaves_text : MDescription → List ℕ → MPattern → List ℕ
leaves_text d path (PHole n) = item_text path (nonterminal_name d n)
leaves_text d path (PLeaf op) = []
leaves_text d path (POne op p) = leaves_text d (path ++ codes "0") p
leaves_text d path (PTwo op p q) = leaves_text d (path ++ codes "0") p ++ leaves_text d (path ++ codes "1") q

-- the line of the rule of this number
abbrev pub rule_line : MDescription → ℕ → Rule → List ℕ
rule_line d number r =
    codes "rule " ++ decimal number ++ codes ": " ++ nonterminal_name d r.left ++ price_text r.cost r.range
    ++ codes " checks" ++ checks_text d [] (pattern_of r.pattern) ++ codes " leaves" ++ leaves_text d [] (pattern_of r.pattern) ++ codes "\n"

-- the lines of rules, of which the first has this number
abbrev pub rule_lines : MDescription → ℕ → List Rule → List ℕ
rule_lines d number [] = []
rule_lines d number (r ∷ rs) = rule_line d number r ++ rule_lines d (number + 1) rs

-- the line of the nonterminal at a place
abbrev pub chain_line : List Rule → ℕ → List ℕ → List ℕ
chain_line rules n name = codes "chain " ++ name ++ codes ":" ++ spaced (numbers_with (Chain n) rules) ++ codes "\n"

-- the lines of nonterminals, of which the first has this place
abbrev pub chain_lines : List Rule → ℕ → List (List ℕ) → List ℕ
chain_lines rules n [] = []
chain_lines rules n (name ∷ names) = chain_line rules n name ++ chain_lines rules (n + 1) names

abbrev pub tables_text : MDescription → List ℕ
tables_text d = start_line d ++ operator_lines d.rules 1 d.terminals ++ rule_lines d 1 d.rules ++ chain_lines d.rules 0 d.nonterminals
