-- Derivations, and parts of derivations, in which rules are nested no deeper than a bound.
use Rattle.std.specs.Prelude.{◌≡◌, ℕ, ◌≤◌, Some, List}
use Rattle.lburg_model.specs.declared.rule.Rule.{Rule}
use Rattle.lburg_model.specs.Tree.{MTree}
use Rattle.lburg_model.specs.Pattern.{MPattern, Goal, goals_at}
use Rattle.lburg_model.specs.Derivation.{MDerivation, MParts, Apply, Derives, DeriveEach}
use Rattle.plain_cover.specs.Height.{height, tallest}

abbrev pub Within : List Rule → ℕ → MTree → ℕ → MDerivation → Type 0
Within rules n t h x = Derives rules n t x × (height x ≤ h)

abbrev pub number_of : MDerivation → ℕ
number_of (Apply number parts) = number

-- with one of the first rules
abbrev pub WithinFirst : List Rule → ℕ → MTree → ℕ → ℕ → MDerivation → Type 0
WithinFirst rules n t h i x = Within rules n t h x × (number_of x ≤ i)

-- with the rule of a number
abbrev pub WithinBy : List Rule → ℕ → MTree → ℕ → ℕ → MDerivation → Type 0
WithinBy rules n t h i x = Within rules n t h x × (number_of x ≡ i)

-- parts for the nonterminals of a pattern that fits the tree
pub record PartsWithin (rules : List Rule) (p : MPattern) (t : MTree) (h : ℕ) (xs : MParts) : Type 0 where
  pub goals : List Goal
  pub fits : goals_at p t ≡ Some goals
  pub each : DeriveEach rules goals xs
  pub low : tallest xs ≤ h
