-- What stands at a pattern's root, and the places of the rules with one root.
use Rattle.std.specs.Prelude.{ℕ, ◌+◌, List, [], ◌∷◌, Bool, false, ◌==◌, if◌then◌else◌}
use Rattle.lburg_model.specs.declared.rule.Rule.{Rule}
use Rattle.lburg_model.specs.Pattern.{MPattern, PHole, PLeaf, POne, PTwo, pattern_of}

-- a nonterminal, where the pattern is a chain rule's, or an operator
pub data Root : Type 0 where
  Chain : (nonterminal : ℕ) → Root
  Operator : (operator : ℕ) → Root

abbrev pub root_of : MPattern → Root
root_of (PHole n) = Chain n
root_of (PLeaf op) = Operator op
root_of (POne op p) = Operator op
root_of (PTwo op p q) = Operator op

abbrev pub same_root : Root → Root → Bool
same_root (Chain n) (Chain m) = n == m
same_root (Chain n) (Operator op) = false
same_root (Operator op) (Chain n) = false
same_root (Operator op) (Operator op') = op == op'

abbrev pub has_root : Root → Rule → Bool
has_root root r = same_root (root_of (pattern_of r.pattern)) root

-- the places of the rules with this root, in order, of rules of which the first has the place k
abbrev pub places_from : Root → ℕ → List Rule → List ℕ
places_from root k [] = []
places_from root k (r ∷ rs) = if has_root root r then k ∷ places_from root (k + 1) rs else places_from root (k + 1) rs

-- the places of all rules with this root
abbrev pub places_with : Root → List Rule → List ℕ
places_with root rules = places_from root 0 rules
