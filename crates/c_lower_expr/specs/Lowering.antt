-- What the code does from a state that it shows, with the marks of what it lowers before it: it comes to an operand and shows a later state, and those
-- marks are used.
use Rattle.std.specs.Prelude.{◌≡◌, Bool, List, ◌++◌}
use Rattle.lowered_forms.specs.Lows.{Low}
use Rattle.lowered_forms.specs.Values.{Lowered}
use Rattle.lowering_steps.specs.declared.operand.Operand.{Operand}
use Rattle.lowering_steps.specs.declared.state.State.{State}
use Rattle.lowering_steps.specs.States.{Comes, Shows}

pub record LowersTo (step : Low → Lowered) (used : List Bool) (s : State) (ms : List Bool) (v : Operand) (t : State) (ns : List Bool) : Type 0 where
  pub is : (l : Low) (rest : List Bool) → Shows s l → ms ≡ used ++ rest → Comes t v (step l) × (ns ≡ rest)

-- the same of what gives no operand
pub record Lowers (step : Low → Low) (used : List Bool) (s : State) (ms : List Bool) (t : State) (ns : List Bool) : Type 0 where
  pub is : (l : Low) (rest : List Bool) → Shows s l → ms ≡ used ++ rest → Shows t (step l) × (ns ≡ rest)
