-- Where the expressions of a function of a core stand, as a function's lowering has it; and its node of an expression.
use Rattle.std.specs.Prelude.{◌≡◌, ℕ, ℤ, Option, Some, None, List, slice_get}
use Rattle.lcc_base.specs.declared.order.Order.{Order}
use Rattle.c_meaning.specs.declared.core_unit.CoreFunction.{CoreFunction}
use Rattle.c_meaning.specs.Units.{CoreUnit, unit_seen}
use Rattle.lowered_forms.specs.Contexts.{Context}
use Rattle.lowered_forms.specs.Handed.{Handed}
use Rattle.lowered_forms.specs.Lows.{Low}
use Rattle.lowering_steps.specs.declared.state.State.{State}
use Rattle.lowering_steps.specs.States.{Shows}

-- how many parameters a function has, if it is there
abbrev pub parameters_of : Option CoreFunction → ℕ
parameters_of (Some f) = f.parameters
parameters_of None = 0

abbrev pub context_in : CoreUnit → ℕ → Order → List ℤ → Context
context_in u n order places = record { unit = unit_seen u; order = order; parameters = parameters_of (slice_get u.functions n); places = places }

-- an expression comes to this node, and the function is lowered so far
pub record NodeComes (s : State) (n : ℕ) (h : Handed) : Type 0 where
  pub low : Low
  pub is : h ≡ record { node = n; low = low }
  pub shows : Shows s low
