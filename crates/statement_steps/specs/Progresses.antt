-- How far a function's body is lowered, as the code has it, and what its steps do.
-- Source: Fraser and Hanson, A Retargetable C Compiler, chapters 10 and 12.
use Rattle.std.specs.Prelude.{◌≡◌}
use Rattle.lowered_forms.specs.Lows.{Low}
use Rattle.lowered_statements.specs.Bodies.{Body}
use Rattle.lowered_statements.specs.Functions.{Exits}
use Rattle.lowering_steps.specs.declared.state.State.{State}
use Rattle.lowering_steps.specs.States.{Shows}
use Rattle.statement_steps.specs.declared.progress.Exits.{Exits as CodeExits}
use Rattle.statement_steps.specs.declared.progress.Progress.{Progress}

pub record ShowsBody (p : Progress) (b : Body) : Type 0 where
  pub low : Shows p.state b.low
  pub tables : p.tables.items ≡ b.tables

abbrev pub exits_of : CodeExits → Exits
exits_of y = record { breaks = y.breaks; continues = y.continues }

-- from a state that it shows the code comes to one that shows the step's
pub record Goes (step : Low → Low) (s t : State) : Type 0 where
  pub is : (l : Low) → Shows s l → Shows t (step l)

-- the same of a body
pub record Does (step : Body → Body) (p q : Progress) : Type 0 where
  pub is : (b : Body) → ShowsBody p b → ShowsBody q (step b)
