-- How much what is lowered weighs at most: the finished blocks by their weights, the open one by a bound of it.
use Rattle.std.specs.Prelude.{ℕ, ◌+◌, ◌≤◌, List, [], ◌∷◌}
use Rattle.dag_forest.specs.declared.entry.Entry.{Entry}
use Rattle.dag_forest.specs.Tally.{AreFormed}
use Rattle.op_forest.specs.declared.frame.Slot.{Slot}
use Rattle.piece_runs.specs.Pieces.{Piece, OfBlock, Mark}
use Rattle.lowered_forms.specs.Lows.{Low}
use Rattle.lowered_forms.specs.Sizes.{pieces_weight, other_slots, weight_by}
use Rattle.expression_weights.specs.Prices.{Costs}

-- with no use to come
pub record Weighs (w : ℕ) (l : Low) : Type 0 where
  pub cost : ℕ
  pub block : Costs l.entries (λ m. 0) cost
  pub all : pieces_weight l.pieces + other_slots l + cost ≤ w

abbrev pub BoundsHold : Type 0
BoundsHold = (w : ℕ) (l : Low) → Weighs w l → weight_by l.entries l ≤ w

abbrev pub EmptyWeighsNothing : Type 0
EmptyWeighsNothing = (labels : ℕ) → Weighs 0 (record { pieces = []; entries = []; slots = []; labels = labels })

-- ---- formed blocks

abbrev pub AreFormedPieces : List Piece → Type 0
AreFormedPieces [] = Unit {0}
AreFormedPieces (OfBlock before es ∷ ps) = AreFormed es 0 × AreFormedPieces ps
AreFormedPieces (Mark n ∷ ps) = AreFormedPieces ps

-- in each block operands are earlier nodes
pub record IsFormed (l : Low) : Type 0 where
  pub open_ : AreFormed l.entries 0
  pub pieces : AreFormedPieces l.pieces
