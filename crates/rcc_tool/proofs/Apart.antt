-- An input isn't both compiled and refused, and one refusal stands at most.
use Rattle.std.proofs.Common.{◌≡◌, ℕ, List, refl}
use Rattle.outcomes.specs.declared.outcome.End.TheVariants as ends
use Rattle.outcomes.specs.declared.outcome.Refusal.{Refusal}
use Rattle.outcomes.specs.declared.outcome.Refusal.TheVariants as refusal
use Rattle.outcomes.specs.Behaviour.{IsApart}
use Rattle.rcc_tool.specs.Compilation.{RefusesRcc, rcc_behaviour}

pub rcc_apart : IsApart rcc_behaviour
rcc_apart input ends.Finished text refusal.BadText made bad = bad made.program made.is_first
rcc_apart input end text refusal.BadText none bad = none
rcc_apart input end text why worked none = none

pub rcc_one : (input : List ℕ) (why other : Refusal) → RefusesRcc input why → RefusesRcc input other → why ≡ other
rcc_one input refusal.BadText refusal.BadText bad also = refl
rcc_one input refusal.BadText other bad none = absurd none
rcc_one input why other none also = absurd none
