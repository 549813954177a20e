-- How many rules are chain rules: their pattern is a nonterminal alone.
use Rattle.std.specs.Prelude.{ℕ, ◌+◌, List, [], ◌∷◌}
use Rattle.lburg_model.specs.declared.rule.Rule.{Rule}
use Rattle.lburg_model.specs.Pattern.{MPattern, PHole, PLeaf, POne, PTwo, pattern_of}

-- 1 for the pattern of a chain rule, else 0
abbrev pub chain_weight : MPattern → ℕ
chain_weight (PHole n) = 1
chain_weight (PLeaf op) = 0
chain_weight (POne op p) = 0
chain_weight (PTwo op p q) = 0

abbrev pub chain_rules : List Rule → ℕ
chain_rules [] = 0
chain_rules (r ∷ rs) = chain_weight (pattern_of r.pattern) + chain_rules rs
