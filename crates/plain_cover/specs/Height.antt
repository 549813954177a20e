-- How deep rules are nested in a derivation.
use Rattle.std.specs.Prelude.{ℕ, ◌+◌, max}
use Rattle.lburg_model.specs.Derivation.{MDerivation, MParts, Apply, NoPart, Part}

-- the rules on the longest way from the derivation's own rule to one without parts
abbrev mutual
  pub height : MDerivation → ℕ
  height (Apply number parts) = tallest parts + 1

  pub tallest : MParts → ℕ
  tallest NoPart = 0
  tallest (Part x xs) = max (height x) (tallest xs)
