-- How far the run of a function's body is while its blocks are made, from a fixed start.
use Rattle.std.specs.Prelude.{◌≡◌, ◌≤◌, ℕ, ◌+◌, false, Option, None, List, [], ◌∷◌, ◌++◌}
use Rattle.lcc_base.specs.Traces.{Event}
use Rattle.op_forest.specs.Nodes.{Node}
use Rattle.forests.specs.Bodies.{Setting}
use Rattle.forests.specs.Budgets.{with_left, with_calls}
use Rattle.forests.specs.Functions.{Program}
use Rattle.forests.specs.Meaning.{call_of}
use Rattle.forests.specs.OneRoot.{runs_in}
use Rattle.forests.specs.Words.{Word, unknown}
use Rattle.forests.specs.Worlds.{World, Outcome, Finished, Exited, Going}
use Rattle.dag_forest.specs.declared.entry.Entry.{Entry}
use Rattle.dag_forest.specs.Meaning.{Keeps, Through, Runs}
use Rattle.dag_forest.specs.Schedules.{in_turn}
use Rattle.dag_forest.specs.Split.{keeps_of}
use Rattle.piece_runs.specs.Pieces.{Piece, OfBlock, roots_of, Front}

-- a body with all its pieces, in the setting of a call
pub record BodyRun : Type 0 where
  pub program : Program
  pub setting : Setting
  pub pieces : List Piece

-- the setting in which calls are the program's
abbrev pub acting : BodyRun → Setting
acting g = with_calls g.setting (call_of g.program)

abbrev pub roots_in : BodyRun → List Piece → List Node
roots_in g ps = roots_of g.setting.environment.order g.setting.environment.home ps

-- the run from these pieces on
abbrev pub run_from : BodyRun → List Piece → ℕ → World → Outcome
run_from g ps left w = runs_in g.program g.setting (roots_in g g.pieces) (roots_in g ps) (with_left left w)

-- the temporaries of the block that stands first
abbrev pub keeps_in : BodyRun → List Piece → Keeps
keeps_in g (OfBlock before entries ∷ ps) = keeps_of g.setting.environment.order g.setting.environment.home before entries
keeps_in g ps = λ m. None

-- the pieces from the open block on, as they come to be; and its temporaries
abbrev pub tail_at : (g : BodyRun) (done : List Piece) (entries : List Entry) → Front g.pieces done entries → List Piece
tail_at g done entries f = OfBlock f.before (entries ++ f.more) ∷ f.rest

abbrev pub keeps_at : (g : BodyRun) (done : List Piece) (entries : List Entry) → Front g.pieces done entries → Keeps
keeps_at g done entries f = keeps_in g (tail_at g done entries f)

-- With some number of steps the run from the start comes to the open block, in this world, and does its entries so far; so many steps are left
-- then. At the start there were so many turns, k are left: each that was spent is paid by a step.
pub record Arrives (g : BodyRun) (start : ℕ → Outcome) (turns : ℕ) (done : List Piece) (entries : List Entry) (f : Front g.pieces done entries) (first : World) (values : ℕ → Word) (w : World) (k left : ℕ) : Type 0 where
  pub steps : ℕ
  pub inside : ℕ
  pub paid : left + turns ≤ steps + k
  pub runs : start steps ≡ run_from g (tail_at g done entries f) inside first
  pub block : Runs (acting g) (keeps_at g done entries f) (in_turn entries 0 []) (λ m. false) (λ m. unknown) inside first (Through values (with_left left w))

-- So for each number of steps that may be left.
pub record Reaches (g : BodyRun) (start : ℕ → Outcome) (turns : ℕ) (done : List Piece) (entries : List Entry) (f : Front g.pieces done entries) (values : ℕ → Word) (w : World) (k : ℕ) : Type 0 where
  pub first : World
  pub arrives : (left : ℕ) → Arrives g start turns done entries f first values w k left

-- ---- other ends

-- the turns are spent: the run goes on, with this trace, at as many steps or more
pub record Stops (start : ℕ → Outcome) (turns : ℕ) (trace : List Event) : Type 0 where
  pub steps : ℕ
  pub world : World
  pub is : start steps ≡ Going world
  pub paid : turns ≤ steps
  pub seen : world.trace ≡ trace

-- it exits in this world
pub record Leaves (start : ℕ → Outcome) (status : ℕ) (w : World) : Type 0 where
  pub steps : ℕ
  pub is : start steps ≡ Exited status w

-- or returns, with or without a value, where k turns are left
pub record Finishes (start : ℕ → Outcome) (turns : ℕ) (value : Option Word) (w : World) (k : ℕ) : Type 0 where
  pub steps : ℕ
  pub is : start steps ≡ Finished value (with_left 0 w)
  pub paid : turns ≤ steps + k
