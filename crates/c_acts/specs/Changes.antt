-- What a change gives.
use Rattle.std.specs.Prelude.{Bool, true, false}
use Rattle.objects.specs.declared.value.Value.{Value}
use Rattle.c_runs.specs.Places.{Spot}
use Rattle.c_runs.specs.Expressions.{new_value, old_value}

-- what the place held before, where the operator stands behind it, and else what it holds then
abbrev pub given_at : Bool → Spot → Value → Value → Value
given_at true = old_value
given_at false = new_value
