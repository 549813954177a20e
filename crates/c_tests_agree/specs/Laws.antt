-- What roots that jump, and tests, come to.
use Rattle.std.specs.Prelude.{◌≤◌, ℕ, Bool, length}
use Rattle.forests.specs.Actions.{Moved}
use Rattle.forests.specs.Words.{Word}
use Rattle.forests.specs.Worlds.{World, Outcome}
use Rattle.dag_forest.specs.Tally.{node_count}
use Rattle.c_runs.specs.Worlds as c
use Rattle.c_match.specs.Ranges.{Map}
use Rattle.c_match_worlds.specs.Matches.{Matches}
use Rattle.c_rows_agree.specs.Integers.{move_where}
use Rattle.c_rows_agree.specs.Templates.{Root, Acts}
use Rattle.piece_runs.specs.Pieces.{Front}
use Rattle.piece_runs.specs.Reaches.{keeps_at}
use Rattle.c_expr_agreement.specs.Scenes.{Scene, InFrame}
use Rattle.lowered_forms.specs.Blocks.{IsWithin}
use Rattle.lowered_forms.specs.Later.{IsFront}
use Rattle.lowered_forms.specs.Lows.{Low, branched, jumped}
use Rattle.c_straight_agree.specs.Settled.{seen, IsSettled, IsNear}
use Rattle.c_straight_agree.specs.Standing.{IsBody, Standing}
use Rattle.c_tests_agree.specs.Tested.{AreMarkedOnce, Label, low_at, jumps, Passed, PassedBy}

-- A root jumps where a truth is so, wherever the run is once its operands are asked for: then the run stands at the label, or else in the next block.
abbrev pub BranchesAreTaken : Type 0
BranchesAreTaken =
    (s : Scene) (locals : ℕ) → IsBody s locals → AreMarkedOnce s.body → (start : ℕ → Outcome) (turns : ℕ) (m : Low) → locals ≤ length m.slots → (f : Front s.body.pieces m.pieces m.entries) (map : Map) (old : c.World) (values : ℕ → Word) (w : World) (k : ℕ)
    → Standing s start turns m f map old values w k → (r : Root) (when is : Bool) (n : ℕ) → IsWithin (node_count m.entries) r.left → IsWithin (node_count m.entries) r.right
    → IsSettled (keeps_at s.body m.pieces m.entries f) (seen s.body map values w) r.left → IsSettled (keeps_at s.body m.pieces m.entries f) (seen s.body map values w) r.right
    → ((others : ℕ → Word) (world : World) → IsNear (keeps_at s.body m.pieces m.entries f) (node_count m.entries) values others w world → Matches s.lowered s.own map old world → InFrame s.frame map old world
    → Acts (seen s.body map others world) r (Moved (move_where when is n)))
    → (h : Front s.body.pieces (branched r m).pieces (branched r m).entries) → IsFront (branched r m).slots h.before → (t : Label s n) → PassedBy (jumps when is) s start turns (length m.slots) (branched r m) h n t map old w old k

-- And a root that jumps, jumps: the run stands at the label.
abbrev pub JumpsAreTaken : Type 0
JumpsAreTaken =
    (s : Scene) (locals : ℕ) → IsBody s locals → AreMarkedOnce s.body → (start : ℕ → Outcome) (turns : ℕ) (m : Low) → locals ≤ length m.slots → (f : Front s.body.pieces m.pieces m.entries) (map : Map) (old : c.World) (values : ℕ → Word) (w : World) (k : ℕ)
    → Standing s start turns m f map old values w k → (n : ℕ) (h : Front s.body.pieces (jumped n m).pieces (jumped n m).entries) → IsFront (jumped n m).slots h.before → (t : Label s n)
    → Passed s start turns (length m.slots) (low_at s n t) t.front map old w old k
