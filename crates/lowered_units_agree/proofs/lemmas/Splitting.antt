-- The blocks of a lowered body are split: each operand is an earlier node, and the slots before it are a frame.
use Rattle.std.specs.Prelude.{ℕ, List, [], ◌∷◌, ◌++◌}
use Rattle.std.proofs.Common.{subst}
use Rattle.op_forest.specs.declared.frame.Slot.{Slot}
use Rattle.op_forest.specs.Frames.{IsFrame}
use Rattle.dag_forest.specs.declared.entry.Entry.{Entry}
use Rattle.dag_forest.specs.Split.{Split}
use Rattle.dag_forest.specs.Tally.{AreFormed}
use Rattle.piece_runs.specs.Pieces.{Piece, OfBlock, Mark}
use Rattle.lowered_blocks.specs.Known.{AreKnown}
use Rattle.lowered_labels.proofs.lemmas.KnownStatements.{functions_are_known}
use Rattle.lowered_statements.specs.Framed.{AreFramed}
use Rattle.lowered_statements.specs.FunctionBodies.{low_f}
use Rattle.lowered_statements.proofs.lemmas.Framing.{functions_have_frames}
use Rattle.lowered_units_agree.specs.Laws.{BlocksAreSplit}

framed_before : (slots : List Slot) (done rest : List Piece) (before : List Slot) (es : List Entry) → AreFramed slots (done ++ OfBlock before es ∷ rest) → IsFrame before
framed_before slots [] rest before es h = h.0.0
framed_before slots (OfBlock b fs ∷ done) rest before es h = framed_before slots done rest before es h.1
framed_before slots (Mark n ∷ done) rest before es h = framed_before slots done rest before es h

formed_at : (k : ℕ) (done rest : List Piece) (before : List Slot) (es : List Entry) → AreKnown k (done ++ OfBlock before es ∷ rest) → AreFormed es 0
formed_at k [] rest before es h = h.0.0.formed
formed_at k (OfBlock b fs ∷ done) rest before es h = formed_at k done rest before es h.1
formed_at k (Mark n ∷ done) rest before es h = formed_at k done rest before es h.1

pub blocks_split : ((before : List Slot) → IsFrame before → (es : List Entry) → AreFormed es 0 → Split before es) → BlocksAreSplit
blocks_split split u order number tables f within done rest before es e =
    let low = (low_f u order number tables f).low in
    split before
    (framed_before low.slots done rest before es (subst (AreFramed low.slots) e (functions_have_frames u order number tables f).blocks))
    es
    (formed_at low.labels done rest before es (subst (AreKnown low.labels) e (functions_are_known u order number tables f within).pieces))
