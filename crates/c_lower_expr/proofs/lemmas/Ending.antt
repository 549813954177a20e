-- A step of the whole state whose result may be an error, at each state that the code shows.
use Rattle.std.specs.Prelude.{Result, Ok, Err, OnOk}
use Rattle.lowered_forms.specs.Lows.{Low}
use Rattle.lowering_steps.specs.declared.state.State.{State}
use Rattle.lowering_steps.specs.States.{Shows}

pub steps_if : {E : Type 0} (r : Result (Unit {0}) E) (s t : State) (next : Low → Low) → ((l : Low) → Shows s l → OnOk r (Shows t (next l))) → OnOk r ((l : Low) → Shows s l → Shows t (next l))
steps_if (Ok u) s t next f = f
steps_if (Err e) s t next f = tt
