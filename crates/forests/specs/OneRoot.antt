-- Fuel above the steps that are left makes no difference. So a call, and a body's run, can be read without it: a root
-- takes one step, and calls inside it take theirs of what is left.
use Rattle.std.specs.Prelude.{suc, List}
use Rattle.op_forest.specs.Nodes.{Node}
use Rattle.forests.specs.Worlds.{Point, Outcome}
use Rattle.forests.specs.Bodies.{Setting}
use Rattle.forests.specs.Functions.{Program}
use Rattle.forests.specs.Meaning.{counted_run, call_of}
use Rattle.forests.specs.Budgets.{with_calls}

-- the run of a body with the steps that are left
abbrev pub runs : Setting → List Node → List Node → Point → Outcome
runs s whole ts p = counted_run (suc p.left) s whole ts p

-- the same in a program
abbrev pub runs_in : Program → Setting → List Node → List Node → Point → Outcome
runs_in g s whole ts p = runs (with_calls s (call_of g)) whole ts p
