-- What expressions are lowered to fits the frame.
use Rattle.std.specs.Prelude.{ℕ, Bool, List}
use Rattle.op_forest.specs.declared.frame.Slot.{Slot}
use Rattle.c_meaning.specs.Values.{CoreTree}
use Rattle.lowered_forms.specs.Contexts.{Context}
use Rattle.lowered_forms.specs.Expressions.{low_e, low_test}
use Rattle.lowered_forms.specs.Lows.{Low}
use Rattle.lowered_forms.specs.Places.{room_of}
use Rattle.lowered_fit.specs.States.{IsFitState, IsWider, IsFitAfter, IsFitResult, FitsContext, FitsCore}

-- in a frame that has the slots of the locals, from a state that fits
abbrev pub ExpressionsFit : Type 0
ExpressionsFit =
    (s : Context) (slots : List Slot) (e : CoreTree) (l : Low) → FitsContext s slots → FitsCore s slots e → IsWider slots l.slots → IsFitState l
    → IsFitResult (room_of s e) l (low_e s e l)

abbrev pub TestsFit : Type 0
TestsFit =
    (s : Context) (slots : List Slot) (e : CoreTree) (n : ℕ) (when : Bool) (l : Low)
    → FitsContext s slots → FitsCore s slots e → IsWider slots l.slots → IsFitState l → IsFitAfter l (low_test s e n when l)
