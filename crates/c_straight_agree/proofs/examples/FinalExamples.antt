-- What a block comes to be, at the end of `x = x + 1` and so at its beginning. And what is refused.
use Rattle.std.specs.Prelude.{false, List, [], ◌∷◌}
use Rattle.std.proofs.Common.{refl, ap}
use Rattle.op_forest.specs.declared.frame.Slot.{Slot}
use Rattle.c_meaning.specs.declared.core_expr.CoreKind.TheVariants as kind
use Rattle.c_meaning.specs.CoreTrees.{NoCore}
use Rattle.c_runs.specs.Samples.{int}
use Rattle.piece_runs.specs.Pieces.{Piece, OfBlock, Mark}
use Rattle.lowered_forms.specs.Expressions.{low_e}
use Rattle.lowered_forms.specs.Lows.{with_slot}
use Rattle.lowered_forms.proofs.lemmas.Fronts.{front_itself}
use Rattle.c_straight_agree.specs.Finals.{Final}
use Rattle.c_straight_agree.specs.Layouts.{context_in, IsFairKind}
use Rattle.c_straight_agree.proofs.lemmas.Finals.{finals_go_back}
use Rattle.c_straight_agree.proofs.examples.IncrementExamples.{increment, slot, layout, pieces, scene, start}

-- behind the expression the block is the body's only one, and nothing is added to it
at_end : Final pieces (low_e (context_in scene layout) increment start).low
at_end = record { front = record { more = []; before = slot ∷ []; rest = []; is = refl }; slots = front_itself (slot ∷ []) }

-- so the block that is open before the expression, which has no entry yet, comes to be this one
at_start : Final pieces start
at_start = finals_go_back pieces (context_in scene layout) increment start at_end

-- a block that was split behind one slot isn't one before which two were taken
taken_later : Final pieces (with_slot start) → ⊥
taken_later h =
    let one = ap before_of h.front.is in
    let two = h.slots.is in
    let never : ⊥ = cc in
    never
  where
    before_of : List Piece → List Slot
    before_of [] = []
    before_of (OfBlock before es ∷ ps) = before
    before_of (Mark l ∷ ps) = []

-- a local that the function hasn't isn't fair
no_local : IsFairKind scene layout (kind.Local 1 false) int NoCore → ⊥
no_local h = let e = h.1 in let never : ⊥ = cc in never
