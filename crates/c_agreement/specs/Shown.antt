-- What traces show of output and open calls.
-- Source: X. Leroy, Formal verification of a realistic compiler, Communications of the ACM 52(7), 2009, section 2 (semantic preservation, observable behaviours).
use Rattle.std.specs.Prelude.{◌≡◌, ℕ, List, [], ◌++◌}
use Rattle.lcc_base.specs.Prefixes.{Starts}
use Rattle.lcc_base.specs.Traces.{Event, output_of, open_behind}
use Rattle.forests.specs.Worlds.{Effect, Went, Exits, Unfinished, Stuck}

-- the events of a call so far
abbrev pub trace_of : Effect → List Event
trace_of (Went words p move) = p.world.trace
trace_of (Exits status w) = w.trace
trace_of (Unfinished w) = w.trace
trace_of Stuck = []

-- The output of the first trace is a prefix of that of the second, and at some moment of the second the same functions' calls were open,
-- in the same order, as are behind the first, whichever were open before. Built-in functions are no events.
pub record IsShownIn (first second : List Event) : Type 0 where
  pub rest : List ℕ
  pub output : output_of first ++ rest ≡ output_of second
  pub moment : List Event
  pub reached : Starts moment second
  pub open_calls : (before : List ℕ) → open_behind before moment ≡ open_behind before first
