-- How far a function is lowered, as the code has it: the trees of the finished pieces, the open block, the frame, and the number of labels.
-- Source: Fraser and Hanson, A Retargetable C Compiler, chapters 5 and 12.
use Rattle.std.specs.Prelude.{◌≡◌}
use Rattle.lcc_base.specs.declared.order.Order.{Order}
use Rattle.forests.specs.Addresses.{Home}
use Rattle.piece_runs.specs.Pieces.{roots_of}
use Rattle.lowered_forms.specs.Lows.{Low}
use Rattle.lowered_forms.specs.Values.{Lowered, with_value}
use Rattle.lowering_steps.specs.declared.operand.Operand.{Operand}
use Rattle.lowering_steps.specs.declared.state.State.{State}
use Rattle.lowering_steps.specs.Operands.{typed_of}

-- The pieces are any that have these roots, whichever body is at home: the trees are all that the code keeps of them.
pub record Shows (s : State) (l : Low) : Type 0 where
  pub done : (order : Order) (home : Home) → s.done.items ≡ roots_of order home l.pieces
  pub block : s.block ≡ l.entries
  pub frame : s.frame ≡ l.slots
  pub labels : s.labels ≡ l.labels

-- an expression comes to this operand, and the function is lowered so far
pub record Comes (s : State) (v : Operand) (r : Lowered) : Type 0 where
  pub low : Low
  pub is : r ≡ with_value (typed_of v) low
  pub shows : Shows s low
