-- What statements and functions are lowered to fits the frame.
use Rattle.std.specs.Prelude.{ℕ, ◌<◌, ◌*◌, ◌^◌, List}
use Rattle.lcc_base.specs.declared.order.Order.{Order}
use Rattle.op_forest.specs.declared.frame.Slot.{Slot}
use Rattle.c_meaning.specs.Units.{FunctionTree, UnitTree}
use Rattle.lowered_fit.specs.States.{IsFitState, IsWider, IsFitAfter, FitsContext}
use Rattle.lowered_statements.specs.Bodies.{Body}
use Rattle.lowered_statements.specs.FunctionBodies.{function_in, low_f}
use Rattle.lowered_statements.specs.Functions.{Function, Exits}
use Rattle.lowered_statements.specs.Layouts.{words_of, layout}
use Rattle.lowered_statements.specs.Statements.{StmtTree, low_s}
use Rattle.statements_fit.specs.Statements.{FitsStmt}

-- in a frame that has the slots of the locals, from a state that fits
abbrev pub StatementsFit : Type 0
StatementsFit =
    (f : Function) (slots : List Slot) (y : Exits) (t : StmtTree) (b : Body)
    → FitsContext f.context slots → FitsStmt f slots t → IsWider slots b.low.slots → IsFitState b.low → IsFitAfter b.low (low_s f y t b).low

-- each local of a function has its place in the frame, where the offsets of parameter words are words
abbrev pub LayoutsFit : Type 0
LayoutsFit =
    (u : UnitTree) (order : Order) (number tables : ℕ) (f : FunctionTree)
    → 4 * words_of f < 2 ^ 32 → FitsContext (function_in u order number tables f).context (layout u.tags f).slots

-- so its blocks fit
abbrev pub FunctionsFit : Type 0
FunctionsFit =
    (u : UnitTree) (order : Order) (number tables : ℕ) (f : FunctionTree)
    → FitsStmt (function_in u order number tables f) (layout u.tags f).slots f.body → 4 * words_of f < 2 ^ 32
    → IsFitState (low_f u order number tables f).low
