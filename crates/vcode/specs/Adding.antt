-- Code with the code of a derivation behind it.
use Rattle.std.specs.Prelude.{◌≡◌, ℕ, List, [], ◌++◌, Option, Some, None}
use Rattle.lburg_model.specs.Derivation.{MDerivation}
use Rattle.lburg_model.specs.Pattern.{MPattern}
use Rattle.op_forest.specs.Nodes.{Node}
use Rattle.vcode.specs.Patterns.{Meeting, leaves_at}
use Rattle.vcode.specs.RuleSets.{Rules}
use Rattle.vcode.specs.Emission.{Emits}

-- the second list is the first with the code of the derivation, which hands up the part, and whose node has the register;
-- registers were free from the first number on and are from the second on
pub record Added {I P : Type 0} (rules : Rules I P) (x : MDerivation) (t : Node) (free free' : ℕ) (old new : List I) (p : P) (to : ℕ) : Type 0 where
  pub code : List I
  pub appended : new ≡ old ++ code
  pub emits : Emits rules x t free (record { code = code; part = p; to = to; next = free' })

abbrev pub meetings_in : Option (List Meeting) → List Meeting
meetings_in None = []
meetings_in (Some meetings) = meetings

-- the nonterminals of a pattern that fits, with the nodes that they meet
abbrev pub meetings_at : MPattern → Node → List Meeting
meetings_at p t = meetings_in (leaves_at p t)
