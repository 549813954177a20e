-- A run's trace goes on from the trace that it began with.
use Rattle.std.specs.Prelude.{ℕ, List}
use Rattle.lcc_base.specs.Traces.{Event}
use Rattle.forests.specs.Worlds.{Point, Effect, Went, Exits, Unfinished, Stuck, Outcome, Finished, Exited, Going, Failed}
use Rattle.forests.specs.Actions.{Calls}
pub use Rattle.lcc_base.specs.Prefixes.{Starts, starts_refl, starts_trans, output_starts, depth_starts}

-- an effect's trace goes on from this one
abbrev pub Begins : List Event → Effect → Type 0
Begins o (Went ws p mv) = Starts o p.world.trace
Begins o (Exits status w) = Starts o w.trace
Begins o (Unfinished w) = Starts o w.trace
Begins o Stuck = Unit {0}

-- an outcome's trace goes on from this one
abbrev pub BeginsIn : List Event → Outcome → Type 0
BeginsIn o (Finished v p) = Starts o p.world.trace
BeginsIn o (Exited status w) = Starts o w.trace
BeginsIn o (Going w) = Starts o w.trace
BeginsIn o Failed = Unit {0}

-- each call's trace goes on from its point's
abbrev pub CallsGrow : Calls → Type 0
CallsGrow call = (name : ℕ) (p : Point) → Begins p.world.trace (call name p)
