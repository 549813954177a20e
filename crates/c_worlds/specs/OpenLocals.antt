-- The locals of the calls that are open: pointers to their objects.
use Rattle.std.specs.Prelude.{ℕ, ◌++◌, List, take, drop}
use Rattle.objects.specs.declared.value.Value.{Value}

-- those of the calls that wait, the outermost first, and those of the running call
pub record OpenLocals : Type 0 where
  pub below : List Value
  pub here : List Value

-- the running call's begin behind so many
abbrev pub locals_from : ℕ → List Value → OpenLocals
locals_from base all = record { below = take base all; here = drop base all }

abbrev pub all_locals : OpenLocals → List Value
all_locals l = l.below ++ l.here
