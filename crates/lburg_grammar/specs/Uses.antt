-- The arities with which patterns use operators.
use Rattle.std.specs.Prelude.{◌≡◌, ◌⊎◌, ℕ, zero, suc, Option, Some, None, List, length, slice_get}
use Rattle.lburg_model.specs.declared.rule.Rule.{Rule}
use Rattle.lburg_model.specs.Pattern.{MPattern, PHole, PLeaf, POne, PTwo, pattern_of}

-- the operator stands in the pattern with so many operands
abbrev pub UsesWith : MPattern → ℕ → ℕ → Type 0
UsesWith (PHole m) op n = ⊥
UsesWith (PLeaf o) op n = (o ≡ op) × (n ≡ 0)
UsesWith (POne o p) op n = ((o ≡ op) × (n ≡ 1)) ⊎ UsesWith p op n
UsesWith (PTwo o p q) op n = ((o ≡ op) × (n ≡ 2)) ⊎ (UsesWith p op n ⊎ UsesWith q op n)

-- one of the rules uses it so
abbrev pub AreUsing : List Rule → ℕ → ℕ → Type 0
AreUsing rs op n = (j : ℕ) × (r : Rule) × (slice_get rs j ≡ Some r) × UsesWith (pattern_of r.pattern) op n

abbrev pub known : Option (Option ℕ) → Option ℕ
known None = None
known (Some a) = a

-- an operator's arity, if it is noted
abbrev pub arity_at : List (Option ℕ) → ℕ → Option ℕ
arity_at arities zero = None
arity_at arities (suc place) = known (slice_get arities place)

-- what is noted is noted there too, for as many operators
pub record AreKept (old new : List (Option ℕ)) : Type 0 where
  pub many : length new ≡ length old
  pub kept : (op n : ℕ) → arity_at old op ≡ Some n → arity_at new op ≡ Some n

-- such uses are noted, and nothing else
pub record AreNoted (Uses : ℕ → ℕ → Type 0) (old new : List (Option ℕ)) : Type 0 where
  pub many : length new ≡ length old
  pub kept : (op n : ℕ) → arity_at old op ≡ Some n → arity_at new op ≡ Some n
  pub noted : (op n : ℕ) → Uses op n → arity_at new op ≡ Some n
  pub only : (op n : ℕ) → arity_at new op ≡ Some n → (arity_at old op ≡ Some n) ⊎ Uses op n
