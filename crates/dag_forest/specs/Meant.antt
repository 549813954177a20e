-- Trees have the meaning of a block where each run of the block is theirs: then they do what the block does, and go on behind.
use Rattle.std.specs.Prelude.{◌≡◌, ℕ, false, Some, List}
use Rattle.op_forest.specs.Labels.{behind}
use Rattle.op_forest.specs.Nodes.{Node as Tree}
use Rattle.forests.specs.Words.{unknown}
use Rattle.forests.specs.Worlds.{World, Point, Outcome, Finished, Going}
use Rattle.forests.specs.Worlds.{Exited as ExitedOutcome}
use Rattle.forests.specs.Bodies.{Setting, at_label}
use Rattle.forests.specs.Budgets.{with_left, with_calls}
use Rattle.forests.specs.Functions.{Program}
use Rattle.forests.specs.Meaning.{call_of}
use Rattle.forests.specs.OneRoot.{runs_in}
use Rattle.dag_forest.specs.Schedules.{Act}
use Rattle.dag_forest.specs.Meaning.{Temporary, Keeps, IsTemporary, Ran, Through, Jumps, Ends, Exited, Out, Runs}

-- what is left of a run behind a block: the roots behind it, those at a label of the whole, or nothing
abbrev pub ended_by : (List Tree → Point → Outcome) → List Tree → List Tree → Ran → Outcome
ended_by run whole rest (Through values p) = run rest p
ended_by run whole rest (Jumps l p) = at_label (behind l whole) (λ ts. run ts p)
ended_by run whole rest (Ends v p) = Finished v p
ended_by run whole rest (Exited status w) = ExitedOutcome status w
ended_by run whole rest (Out w) = Going w

-- the rows make temporaries of those of the kept nodes
abbrev pub AreTemporaries : Setting → Keeps → Type 0
AreTemporaries s keeps = (m : ℕ) (t : Temporary) → keeps m ≡ Some t → IsTemporary s t

-- In each program and each setting, from each world, with as many root steps: what the acts do, the trees do, before whatever
-- stands behind them.
abbrev pub HaveMeaning : Keeps → List Act → (List Tree → List Tree) → Type 0
HaveMeaning keeps acts trees =
    (g : Program) (s : Setting) → AreTemporaries (with_calls s (call_of g)) keeps
    → (whole rest : List Tree) (left : ℕ) (w : World) (r : Ran)
    → Runs (with_calls s (call_of g)) keeps acts (λ m. false) (λ m. unknown) left w r
    → runs_in g s whole (trees rest) (with_left left w) ≡ ended_by (runs_in g s whole) whole rest r
