-- The lowering of a function's body agrees with C: from where its statements begin, the run returns, exits or goes on as the execution of C's does.
-- Source: ISO/IEC 9899:1990, 5.1.2.2.3, 6.6.6.4, 6.7.1.
use Rattle.std.specs.Prelude.{◌≡◌, ◌≤◌, ◌<◌, ℕ, true, false, length}
use Rattle.lcc_base.specs.declared.order.Order.{Order}
use Rattle.c_meaning.specs.Units.{FunctionTree, UnitTree, are_apart, labels}
use Rattle.c_runs.specs.Outcomes.{Undefined, OutOfTurns, Exit, Out, Next, Break, Continue, Return, Goto, Over}
use Rattle.c_runs.specs.Run.{context}
use Rattle.c_runs.specs.Statements.{Start, exec}
use Rattle.piece_runs.specs.Reaches.{Stops}
use Rattle.c_expr_agreement.specs.LoweredExpr.{Left}
use Rattle.c_expr_agreement.specs.Scenes.{Scene}
use Rattle.lowered_forms.specs.Lows.{ended}
use Rattle.lowered_statements.specs.Bodies.{Body}
use Rattle.lowered_statements.specs.FunctionBodies.{no_exits, low_f}
use Rattle.lowered_statements.specs.Functions.{Function, label_at}
use Rattle.lowered_statements.specs.Returns.{end_by}
use Rattle.lowered_statements.specs.Statements.{StmtTree, low_s}
use Rattle.lowered_labels.specs.Used.{IsOwn, GoesWithin}
use Rattle.c_tests_agree.specs.Tested.{AreMarkedOnce, Label}
use Rattle.c_stmt_agreement.specs.Comings.{Activation, HasFrame, Origin, Ending, Returned, IsNoValue, ReturnedWith}
use Rattle.c_stmt_agreement.specs.LoweredStmt.{StandsAt}
use Rattle.c_stmts_agree.specs.Parts.{PartsAgree}
use Rattle.c_stmts_agree.specs.Tables.{HasTables}
use Rattle.c_stmts_agree.specs.Ways.{IsEnding}

-- by what the execution of a body comes to, whose end is a return without a value; nothing is asked where it is undefined, or where a jump leaves the body, as in no
-- checked function
abbrev pub CameBack : Activation → Ending → Origin → Out → Type 0
CameBack p e o (Next k old) = Returned p o (IsNoValue e.gives_zero) old k
CameBack p e o (Break k old) = Unit {0}
CameBack p e o (Continue k old) = Unit {0}
CameBack p e o (Return v line k old) = ReturnedWith p e o v old k
CameBack p e o (Goto l k old) = Unit {0}
CameBack p e o (Over (Undefined cause line) old) = Unit {0}
CameBack p e o (Over OutOfTurns old) = Stops o.start o.turns old.trace
CameBack p e o (Over (Exit status) old) = Left p.scene o.start o.map status old

-- a body whose pieces end with it, in which the function's labels stand, and whose tables are the unit's
abbrev pub FunctionBodiesAgree : Type 0
FunctionBodiesAgree =
    (p : Activation) → HasFrame p → AreMarkedOnce p.scene.body → (f : Function) (e : Ending) → IsEnding f e → ((n : ℕ) → IsOwn f n → Label p.scene (label_at f n))
    → (t : StmtTree) → PartsAgree p f e t → GoesWithin f false false t → (b : Body) → p.locals ≤ length b.low.slots → HasTables p f (low_s f no_exits t b) → p.scene.body.pieces ≡ (ended (end_by f.gives_zero (low_s f no_exits t b).low)).pieces
    → (o : Origin) (k : ℕ) → StandsAt p o b.low k → CameBack p e o (exec (context p.scene.unit p.scene.lowered.order) t Start k o.old)

-- so a lowered function's labels stand in its body, and a block begins behind each
abbrev pub FunctionsHaveLabels : Type 0
FunctionsHaveLabels =
    (s : Scene) (u : UnitTree) (order : Order) (number tables : ℕ) (f : FunctionTree) → s.body.pieces ≡ (low_f u order number tables f).low.pieces → are_apart (labels f.body) ≡ true
    → (n : ℕ) → n < length (labels f.body) → Label s n
