-- How many rules have one root, and lists of places that rise.
use Rattle.std.specs.Prelude.{◌≡◌, ℕ, ◌<◌, Some, List, [], ◌∷◌, slice_get, if◌then◌else◌}
use Rattle.std.specs.List.{count_by}
use Rattle.lburg_model.specs.declared.rule.Rule.{Rule}
use Rattle.lburg_model.specs.Pattern.{pattern_of}
use Rattle.lburg_tables.specs.Root.{Root, root_of, has_root}

-- how many rules have this root
abbrev pub with_root : Root → List Rule → ℕ
with_root root rules = count_by (has_root root) rules

-- the rule's pattern has this root
abbrev pub HasRoot : Root → Rule → Type 0
HasRoot root r = root_of (pattern_of r.pattern) ≡ root

-- ---- their order

-- each number is less than those behind it
abbrev pub Rises : List ℕ → Type 0
Rises xs = (i j p q : ℕ) → i < j → slice_get xs i ≡ Some p → slice_get xs j ≡ Some q → p < q

-- ---- one rule more

-- the place of a rule, where it has this root
abbrev pub place_of : Root → Rule → ℕ → List ℕ
place_of root r place = if has_root root r then place ∷ [] else []
