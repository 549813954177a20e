-- What the trees of a split block do.
use Rattle.std.specs.Prelude.{◌≡◌, ℕ, false, List, [], ◌++◌, Some, ◌∷◌}
use Rattle.op_forest.specs.declared.frame.Slot.{Slot}
use Rattle.op_forest.specs.Labels.{behind, label_of}
use Rattle.op_forest.specs.Nodes.{Node as Tree}
use Rattle.forests.specs.Bodies.{Setting}
use Rattle.forests.specs.Budgets.{with_left, with_calls}
use Rattle.forests.specs.Functions.{Program}
use Rattle.forests.specs.Meaning.{call_of}
use Rattle.forests.specs.OneRoot.{runs_in}
use Rattle.forests.specs.Words.{unknown}
use Rattle.forests.specs.Worlds.{World}
use Rattle.dag_forest.specs.declared.entry.Entry.{Entry}
use Rattle.dag_forest.specs.Meaning.{Ran, Runs}
use Rattle.dag_forest.specs.Meant.{ended_by}
use Rattle.dag_forest.specs.Schedules.{acts_of, in_turn}
use Rattle.dag_forest.specs.Split.{Split, split_frame, split_trees, keeps_of}

-- In a frame with the slots behind the split, and maybe more behind them, the trees do what the block does, and go on behind.
abbrev pub SplitMeans : Type 0
SplitMeans =
    (before : List Slot) (es : List Entry) → Split before es → (g : Program) (s : Setting) (more : List Slot) → s.environment.home.slots ≡ split_frame before es ++ more
    → (whole rest : List Tree) (left : ℕ) (w : World) (r : Ran) → Runs (with_calls s (call_of g)) (keeps_of s.environment.order s.environment.home before es) (acts_of es) (λ m. false) (λ m. unknown) left w r
    → runs_in g s whole (split_trees s.environment.order s.environment.home before es rest) (with_left left w) ≡ ended_by (runs_in g s whole) whole rest r

-- The same of a run in which the unused nodes are made, too.
abbrev pub TurnsMean : Type 0
TurnsMean =
    (before : List Slot) (es : List Entry) → Split before es → (g : Program) (s : Setting) (more : List Slot) → s.environment.home.slots ≡ split_frame before es ++ more
    → (whole rest : List Tree) (left : ℕ) (w : World) (r : Ran) → Runs (with_calls s (call_of g)) (keeps_of s.environment.order s.environment.home before es) (in_turn es 0 []) (λ m. false) (λ m. unknown) left w r
    → runs_in g s whole (split_trees s.environment.order s.environment.home before es rest) (with_left left w) ≡ ended_by (runs_in g s whole) whole rest r

-- no root is this label
abbrev pub Lacks : ℕ → List Tree → Type 0
Lacks l [] = Unit {0}
Lacks l (t ∷ ts) = (label_of t ≡ Some l → ⊥) × Lacks l ts

-- behind the first root that is a label stand the roots behind it
abbrev pub BehindFirst : Type 0
BehindFirst = (l : ℕ) (before : List Tree) (t : Tree) (rest : List Tree) → Lacks l before → label_of t ≡ Some l → behind l (before ++ t ∷ rest) ≡ Some rest
