-- Frames of functions while they are lowered: the slots are a frame, and those behind which a block was split are one too, which stands first
-- in it with the block's temporaries.
-- Source: Fraser and Hanson, A Retargetable C Compiler, chapter 13 (offsets of locals).
use Rattle.std.specs.Prelude.{ℕ, List, [], ◌∷◌}
use Rattle.lcc_base.specs.declared.order.Order.{Order}
use Rattle.op_forest.specs.declared.frame.Slot.{Slot}
use Rattle.op_forest.specs.Frames.{IsFrame}
use Rattle.c_types.specs.Layout.{Tag}
use Rattle.c_meaning.specs.Units.{FunctionTree, UnitTree}
use Rattle.dag_forest.specs.Split.{split_frame}
use Rattle.piece_runs.specs.Pieces.{Piece, OfBlock, Mark}
use Rattle.lowered_forms.specs.Later.{IsFront}
use Rattle.lowered_forms.specs.Lows.{Low}
use Rattle.lowered_statements.specs.Bodies.{Body}
use Rattle.lowered_statements.specs.FunctionBodies.{low_f}
use Rattle.lowered_statements.specs.Functions.{Function, Exits}
use Rattle.lowered_statements.specs.Layouts.{layout}
use Rattle.lowered_statements.specs.Statements.{StmtTree, low_s}

abbrev pub AreFramed : List Slot → List Piece → Type 0
AreFramed slots [] = Unit {0}
AreFramed slots (OfBlock before es ∷ ps) = (IsFrame before × IsFront (split_frame before es) slots) × AreFramed slots ps
AreFramed slots (Mark n ∷ ps) = AreFramed slots ps

pub record IsFramed (l : Low) : Type 0 where
  pub frame : IsFrame l.slots
  pub blocks : AreFramed l.slots l.pieces

-- a function's locals have a frame
abbrev pub LayoutsAreFrames : Type 0
LayoutsAreFrames = (tags : List Tag) (f : FunctionTree) → IsFrame (layout tags f).slots

abbrev pub StatementsKeepFrames : Type 0
StatementsKeepFrames = (f : Function) (y : Exits) (t : StmtTree) (b : Body) → IsFramed b.low → IsFramed (low_s f y t b).low

abbrev pub FunctionsHaveFrames : Type 0
FunctionsHaveFrames = (u : UnitTree) (order : Order) (number tables : ℕ) (f : FunctionTree) → IsFramed (low_f u order number tables f).low
