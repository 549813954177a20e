-- Calls with a budget of root steps for each body, and a limit of open calls. For each budget it is the run in which
-- the steps are counted over all calls, at some number of steps.
use Rattle.std.specs.Prelude.{◌≡◌, ℕ, zero, suc, ◌+◌, ◌≤◌}
use Rattle.forests.specs.Worlds.{Point, Effect, Went, Exits, Unfinished, Stuck, Outcome, Finished, Exited, Going, Failed}
use Rattle.forests.specs.Bodies.{body_run}
use Rattle.forests.specs.Functions.{Program, call_by}
use Rattle.forests.specs.Budgets.{with_left}
use Rattle.forests.specs.Actions.{Calls}

-- calls with at most n calls open in each, and at most n root steps in each body
abbrev pub calls_at : Program → ℕ → Calls
calls_at g zero name p = call_by g (λ s roots p1. body_run s roots zero roots p1) (λ other p1. Stuck) name (g.callee name) p
calls_at g (suc n) name p = call_by g (λ s roots p1. body_run s roots (suc n) roots p1) (calls_at g n) name (g.callee name) p

-- An effect is that of a run by steps: from some number of them on, where it is over, with the rest of the steps; at
-- some number, n or more, where it is unfinished; and at some number where it is stuck.
abbrev pub Meets : ℕ → Effect → (ℕ → Effect) → Type 0
Meets n (Went vs q mv) at = (j : ℕ) × ((s : ℕ) → at (j + s) ≡ Went vs (record q { left = s }) mv)
Meets n (Exits status w) at = (j : ℕ) × ((s : ℕ) → at (j + s) ≡ Exits status w)
Meets n (Unfinished w) at = (j : ℕ) × (n ≤ j) × (at j ≡ Unfinished w)
Meets n Stuck at = (j : ℕ) × (at j ≡ Stuck)

-- likewise of a body's outcome
abbrev pub MeetsIn : ℕ → Outcome → (ℕ → Outcome) → Type 0
MeetsIn n (Finished v q) at = (j : ℕ) × ((s : ℕ) → at (j + s) ≡ Finished v (record q { left = s }))
MeetsIn n (Exited status w) at = (j : ℕ) × ((s : ℕ) → at (j + s) ≡ Exited status w)
MeetsIn n (Going w) at = (j : ℕ) × (n ≤ j) × (at j ≡ Going w)
MeetsIn n Failed at = (j : ℕ) × (at j ≡ Failed)

-- each call under the first meaning is that under the second one, at some number of steps
abbrev pub CallsMeet : ℕ → Calls → Calls → Type 0
CallsMeet n c1 c2 = (name : ℕ) (p : Point) → Meets n (c1 name p) (λ j. c2 name (with_left j p.world))
