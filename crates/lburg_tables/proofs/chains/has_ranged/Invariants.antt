use Rattle.std.proofs.Common.{◌≡◌, ◌<◌, ℕ, Some}
use Rattle.std.specs.Prelude.{slice_get}
use Rattle.lburg_model.specs.declared.rule.Rule.{Rule}
use Rattle.lburg_tables.specs.Leads.{IsRanged}
use Rattle.lburg_tables.proofs.chains.has_ranged.Given as goal

abbrev pub invariant-loop-rule : goal.invariant-loop-rule
invariant-loop-rule l = (i : ℕ) (r : Rule) → i < l.rule-index → slice_get l.rules i ≡ Some r → IsRanged r → ⊥
