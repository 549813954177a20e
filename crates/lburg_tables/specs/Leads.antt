-- Chains: chain rules without a range, one applied after another.
-- Source: Fraser and Hanson, A Retargetable C Compiler, chapter 14 (closures).
use Rattle.std.specs.Prelude.{◌≡◌, ◌≢◌, ℕ, ◌+◌, Some, None, List, slice_get}
use Rattle.lburg_model.specs.declared.pattern.Pattern.{Nonterminal}
use Rattle.lburg_model.specs.declared.range.Range.{Range}
use Rattle.lburg_model.specs.declared.rule.Rule.{Rule}

-- the rule of place i is a chain rule from m without a range
abbrev pub IsFree : List Rule → ℕ → ℕ → Rule → Type 0
IsFree rules i m r = (slice_get rules i ≡ Some r) × (r.pattern ≡ Nonterminal m) × (r.range ≡ None)

-- the rule is a chain rule with a range
abbrev pub IsRanged : Rule → Type 0
IsRanged r = (m : ℕ) × (range : Range) × (r.pattern ≡ Nonterminal m) × (r.range ≡ Some range)

-- some chain rule has a range
abbrev pub HasRanged : List Rule → Type 0
HasRanged rules = (i : ℕ) × (r : Rule) × (slice_get rules i ≡ Some r) × IsRanged r

-- chain rules without a range lead from m to n: their costs added up, how many they are, and the number, from 1, of the
-- last one, which has n as its left side; no rule at all leads from m to m, with the number 0
pub data Leads (rules : List Rule) (m : ℕ) : (n cost count number : ℕ) → Type 0 where
  Empty : {n : ℕ} → n ≡ m → Leads rules m n 0 0 0
  Then : {p n cost count number : ℕ} (i : ℕ) (r : Rule) → Leads rules m p cost count number → IsFree rules i p r → r.left ≡ n → Leads rules m n (cost + r.cost) (count + 1) (i + 1)

-- they lead from m to another nonterminal
abbrev pub IsReached : List Rule → ℕ → ℕ → Type 0
IsReached rules m n = (n ≢ m) × (cost count number : ℕ) × Leads rules m n cost count number
