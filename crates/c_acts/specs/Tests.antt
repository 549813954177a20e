-- Answers as the values that the meaning has for them.
use Rattle.std.specs.Prelude.{ℕ, Bool, true, false, Option, Some, Result as Checked, Ok, Err}
use Rattle.objects.specs.declared.value.Value.{Value}
use Rattle.c_runs.specs.Worlds.{World}
use Rattle.c_runs.specs.Outcomes.{Result, Gives, branch, then_give, truth}
use Rattle.c_runs.specs.Expressions.{Part, asked}
use Rattle.c_worlds.specs.declared.stop.Stop.{Stop}

-- a test's
abbrev pub truth_of : Checked Bool Stop → Checked Value Stop
truth_of (Ok b) = Ok (truth b)
truth_of (Err stop) = Err stop

-- that of a value that is given
abbrev pub given_by : Checked Value Stop → Checked (Option Value) Stop
given_by (Ok v) = Ok (Some v)
given_by (Err stop) = Err stop

-- two tests, as `&&` and `||` have them
abbrev pub both_of : Part → Part → ℕ → ℕ → World → Result
both_of a b line k w = then_give (asked a line k w) (λ v k1 w1. branch v (λ k2 w2. asked b line k2 w2) (λ k2 w2. Gives (truth false) k2 w2) k1 w1)

abbrev pub either_of : Part → Part → ℕ → ℕ → World → Result
either_of a b line k w = then_give (asked a line k w) (λ v k1 w1. branch v (λ k2 w2. Gives (truth true) k2 w2) (λ k2 w2. asked b line k2 w2) k1 w1)
