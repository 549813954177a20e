-- The lowering of statements keeps frames.
use Rattle.std.specs.Prelude.{ℕ, List, [], ◌∷◌, ◌++◌}
use Rattle.lcc_base.specs.declared.order.Order.{Order}
use Rattle.op_forest.specs.declared.frame.Slot.{Slot}
use Rattle.op_forest.specs.Frames.{lowest}
use Rattle.c_meaning.specs.Units.{FunctionTree, UnitTree}
use Rattle.dag_forest.proofs.lemmas.Frames.{frame_below}
use Rattle.dag_forest.specs.NewSlots.{slot_below, slots_below}
use Rattle.dag_forest.specs.Split.{room_count, split_frame}
use Rattle.piece_runs.specs.Pieces.{Piece, OfBlock, Mark}
use Rattle.lowered_forms.specs.Later.{IsFront}
use Rattle.lowered_forms.specs.Lows.{Low, ended, marked, with_slot}
use Rattle.lowered_forms.proofs.lemmas.Fronts.{front_itself, front_joins, front_before}
use Rattle.lowered_statements.specs.Bodies.{Body}
use Rattle.lowered_statements.specs.FunctionBodies.{low_f}
use Rattle.lowered_statements.specs.Framed.{AreFramed, IsFramed}
use Rattle.lowered_statements.specs.Functions.{Function, Exits}
use Rattle.lowered_statements.specs.Statements.{StmtTree, low_s}
use Rattle.lowered_statements.specs.Steps.{BodyRelation, BodySteps}
use Rattle.lowered_statements.proofs.lemmas.Induction.{statement_steps, function_steps}
use Rattle.lowered_statements.proofs.lemmas.Laying.{layout_is_frame}

-- ---- pieces

framed_more : (slots more : List Slot) (ps : List Piece) → IsFront slots more → AreFramed slots ps → AreFramed more ps
framed_more slots more [] f h = tt
framed_more slots more (OfBlock before es ∷ ps) f h = ((h.0.0, front_joins (split_frame before es) slots more h.0.1 f), framed_more slots more ps f h.1)
framed_more slots more (Mark n ∷ ps) f h = framed_more slots more ps f h

framed_append : (slots : List Slot) (ps qs : List Piece) → AreFramed slots ps → AreFramed slots qs → AreFramed slots (ps ++ qs)
framed_append slots [] qs h g = g
framed_append slots (OfBlock before es ∷ ps) qs h g = (h.0, framed_append slots ps qs h.1 g)
framed_append slots (Mark n ∷ ps) qs h g = framed_append slots ps qs h g

-- ---- steps

slot_framed : (l : Low) → IsFramed l → IsFramed (with_slot l)
slot_framed l h = record {
  frame = frame_below l.slots h.frame 1;
  blocks = framed_more l.slots (with_slot l).slots l.pieces (front_before l.slots (slot_below (lowest l.slots) 0 ∷ [])) h.blocks;
}

ended_framed : (l : Low) → IsFramed l → IsFramed (ended l)
ended_framed l h =
    let more = split_frame l.slots l.entries in
    record {
      frame = frame_below l.slots h.frame (room_count l.entries);
      blocks = framed_append more l.pieces (OfBlock l.slots l.entries ∷ []) (framed_more l.slots more l.pieces (front_before l.slots (slots_below (lowest l.slots) (room_count l.entries))) h.blocks) ((h.frame, front_itself more), tt);
    }

marked_framed : (n : ℕ) (l : Low) → IsFramed l → IsFramed (marked n l)
marked_framed n l h = let e = ended_framed l h in record { frame = e.frame; blocks = framed_append (ended l).slots (ended l).pieces (Mark n ∷ []) e.blocks tt }

abbrev keeps_frame : BodyRelation
keeps_frame a b = IsFramed a.low → IsFramed b.low

framing_steps : BodySteps keeps_frame
framing_steps = record {
  same = λ b h. h;
  joins = λ a b c x y h. y (x h);
  asks = λ t b h. record { frame = h.frame; blocks = h.blocks };
  acts = λ r b h. record { frame = h.frame; blocks = h.blocks };
  acts_one = λ x t b h. record { frame = h.frame; blocks = h.blocks };
  returns = λ b h. record { frame = h.frame; blocks = h.blocks };
  slot = λ b h. slot_framed b.low h;
  ends = λ b h. ended_framed b.low h;
  marks = λ n b h. marked_framed n b.low h;
  label = λ b h. record { frame = h.frame; blocks = h.blocks };
  table = λ labels b h. h;
}

pub statements_keep_frames : (f : Function) (y : Exits) (t : StmtTree) (b : Body) → IsFramed b.low → IsFramed (low_s f y t b).low
statements_keep_frames f y t b h = statement_steps keeps_frame framing_steps f y t b h

pub functions_have_frames : (u : UnitTree) (order : Order) (number tables : ℕ) (f : FunctionTree) → IsFramed (low_f u order number tables f).low
functions_have_frames u order number tables f =
    function_steps keeps_frame framing_steps u order number tables f (record { frame = layout_is_frame u.tags f; blocks = tt })
