-- How a run goes on as blocks do.
use Rattle.std.specs.Prelude.{◌≡◌, ◌≤◌, ℕ, suc, ◌+◌, false, None, List, [], ◌∷◌, ◌++◌}
use Rattle.op_forest.specs.declared.frame.Slot.{Slot}
use Rattle.op_forest.specs.Frames.{IsFrame}
use Rattle.forests.specs.Budgets.{with_left}
use Rattle.forests.specs.OneRoot.{runs_in}
use Rattle.forests.specs.Words.{Word, unknown}
use Rattle.forests.specs.Worlds.{World, Outcome}
use Rattle.dag_forest.specs.declared.act.Act.{Act}
use Rattle.dag_forest.specs.declared.entry.Entry.{Entry}
use Rattle.dag_forest.specs.declared.entry.Entry.TheVariants.{Value}
use Rattle.dag_forest.specs.declared.parts.Parts.{Parts}
use Rattle.dag_forest.specs.Entries.{is_call}
use Rattle.dag_forest.specs.Meaning.{Ran, Through, Jumps, Runs}
use Rattle.dag_forest.specs.Meant.{ended_by}
use Rattle.dag_forest.specs.Schedules.{at}
use Rattle.dag_forest.specs.Split.{Split, split_frame}
use Rattle.dag_forest.specs.Tally.{AreFormed, node_count}
use Rattle.dag_seam.specs.Laws.{GoesOn}
use Rattle.dag_seam.specs.Open.{IsNow}
use Rattle.dag_seam.specs.Ran.{IsOver}
use Rattle.dag_seam.specs.SplitLaws.{Lacks}
use Rattle.dag_seam.specs.Turns.{made_of, waiting}
use Rattle.piece_runs.specs.Pieces.{Piece, OfBlock, Mark, Front}
use Rattle.piece_runs.specs.Reaches.{BodyRun, acting, roots_in, run_from, tail_at, keeps_at, Reaches}

-- what stands from the open block on doesn't depend on how far the block is
abbrev pub TailsAreSame : Type 0
TailsAreSame = (g : BodyRun) (done : List Piece) (es fs : List Entry) (f : Front g.pieces done es) (h : Front g.pieces done fs) → tail_at g done es f ≡ tail_at g done fs h

-- A body's run begins at its first block.
abbrev pub StartIsReached : Type 0
StartIsReached = (g : BodyRun) (f : Front g.pieces [] []) (w : World) (k : ℕ) → Reaches g (λ left. run_from g g.pieces left w) k [] [] f (λ m. unknown) w k

-- ---- the open block goes on

-- The acts come to this from where the run is, and take at least a step for each turn.
abbrev pub ActTo : (g : BodyRun) (done : List Piece) (es : List Entry) → Front g.pieces done es → List Act → (ℕ → Word) → World → ℕ → ℕ → (ℕ → Ran) → Type 0
ActTo g done es f acts values w k j r = (left : ℕ) → (inside : ℕ) × (left + k ≤ inside + j) × Runs (acting g) (keeps_at g done es f) acts (made_of es) values inside w (r left)

-- With further entries that do these acts the run comes to where these come to.
abbrev pub EntriesAreReached : Type 0
EntriesAreReached =
    (g : BodyRun) (start : ℕ → Outcome) (turns : ℕ) (done : List Piece) (es fs : List Entry) (acts : List Act) (f : Front g.pieces done es) (h : Front g.pieces done (es ++ fs))
    (values others : ℕ → Word) (w world : World) (k j : ℕ) → GoesOn es fs acts → Reaches g start turns done es f values w k
    → ActTo g done es f acts values w k j (λ left. Through others (with_left left world))
    → Reaches g start turns done (es ++ fs) h others world j

-- So it does with a node that is no call and has no temporary: it takes no step.
abbrev pub NodeIsReached : Type 0
NodeIsReached =
    (g : BodyRun) (start : ℕ → Outcome) (turns : ℕ) (done : List Piece) (es : List Entry) (x : Parts) (f : Front g.pieces done es) (h : Front g.pieces done (es ++ Value x ∷ []))
    (values : ℕ → Word) (w : World) (k : ℕ) (v : Word) → waiting es ≡ [] → is_call x.operator.op ≡ false → keeps_at g done es f (node_count es) ≡ None
    → IsNow (acting g) (keeps_at g done es f) (made_of es) x values w v → Reaches g start turns done es f values w k
    → Reaches g start turns done (es ++ Value x ∷ []) h (at values (node_count es) v) w k

-- ---- blocks end

-- each block is split, and its slots stand first among the frame's
pub record IsSplit (g : BodyRun) (before : List Slot) (es : List Entry) : Type 0 where
  pub split : Split before es
  pub more : List Slot
  pub frame : g.setting.environment.home.slots ≡ split_frame before es ++ more

abbrev pub AreSplit : BodyRun → Type 0
AreSplit g = (done rest : List Piece) (before : List Slot) (es : List Entry) → g.pieces ≡ done ++ OfBlock before es ∷ rest → IsSplit g before es

-- so it is where each operand is an earlier node
abbrev pub FormedIsSplit : Type 0
FormedIsSplit = (g : BodyRun) (before more : List Slot) (es : List Entry) → IsFrame before → AreFormed es 0 → g.setting.environment.home.slots ≡ split_frame before es ++ more → IsSplit g before es

-- what is left of the run where a block's run is over
abbrev pub over_in : BodyRun → Ran → Outcome
over_in g r = ended_by (runs_in g.program g.setting (roots_in g g.pieces)) (roots_in g g.pieces) [] r

pub record Comes (start : ℕ → Outcome) (turns k inside : ℕ) (o : Outcome) : Type 0 where
  pub steps : ℕ
  pub paid : inside + turns ≤ steps + k
  pub is : start steps ≡ o

-- Where the acts of further entries end the run, so does the body's: it returns, exits, goes on without steps, or goes to a label.
abbrev pub OverIsReached : Type 0
OverIsReached =
    (g : BodyRun) → AreSplit g → (start : ℕ → Outcome) (turns : ℕ) (done : List Piece) (es fs : List Entry) (acts : List Act) (f : Front g.pieces done es) → Front g.pieces done (es ++ fs)
    → (values : ℕ → Word) (w : World) (k : ℕ) → GoesOn es fs acts → Reaches g start turns done es f values w k
    → (inside : ℕ) (r : Ran) → IsOver r → Runs (acting g) (keeps_at g done es f) acts (made_of es) values inside w r → Comes start turns k inside (over_in g r)

-- Where the block is finished, the next one begins in the same world;
abbrev pub NextIsReached : Type 0
NextIsReached =
    (g : BodyRun) → AreSplit g → (start : ℕ → Outcome) (turns : ℕ) (done : List Piece) (es : List Entry) (before : List Slot) (f : Front g.pieces done es) (h : Front g.pieces (done ++ OfBlock before es ∷ []) [])
    (values : ℕ → Word) (w : World) (k : ℕ) → Reaches g start turns done es f values w k → Reaches g start turns (done ++ OfBlock before es ∷ []) [] h (λ m. unknown) w k

-- and so behind a label, which is a step, and pays for a turn.
abbrev pub LabelIsReached : Type 0
LabelIsReached =
    (g : BodyRun) → AreSplit g → (start : ℕ → Outcome) (turns : ℕ) (done : List Piece) (es : List Entry) (before : List Slot) (label : ℕ) (f : Front g.pieces done es) (h : Front g.pieces (done ++ OfBlock before es ∷ Mark label ∷ []) [])
    (values : ℕ → Word) (w : World) (k j : ℕ) → k ≤ suc j → Reaches g start turns done es f values w k → Reaches g start turns (done ++ OfBlock before es ∷ Mark label ∷ []) [] h (λ m. unknown) w j

-- Where the acts of further entries jump, the run comes to the block behind the label, if that is the first root with it.
abbrev pub JumpIsReached : Type 0
JumpIsReached =
    (g : BodyRun) → AreSplit g → (start : ℕ → Outcome) (turns : ℕ) (done : List Piece) (es fs : List Entry) (acts : List Act) (f : Front g.pieces done es) → Front g.pieces done (es ++ fs)
    → (values : ℕ → Word) (w world : World) (k j : ℕ) → GoesOn es fs acts → Reaches g start turns done es f values w k
    → (label : ℕ) (ps : List Piece) (t : Front g.pieces (ps ++ Mark label ∷ []) []) → Lacks label (roots_in g ps)
    → ActTo g done es f acts values w k j (λ left. Jumps label (with_left left world))
    → Reaches g start turns (ps ++ Mark label ∷ []) [] t (λ m. unknown) world j
