-- The lowering of a function's statements agrees with C.
-- Source: ISO/IEC 9899:1990, 6.6; X. Leroy, Formal verification of a realistic compiler, Communications of the ACM 52(7), 2009, section 2 (simulations).
use Rattle.std.specs.Prelude.{◌≡◌, ◌≤◌, Bool, false, None, Some, length}
use Rattle.c_meaning.specs.StmtTrees as stmt
use Rattle.c_meaning.specs.Types.{is_record}
use Rattle.c_meaning.specs.Values.{CoreTree}
use Rattle.lowered_forms.specs.Lows.{Low}
use Rattle.lowered_statements.specs.Bodies.{Body}
use Rattle.lowered_statements.specs.Functions.{Function, Exits}
use Rattle.lowered_statements.specs.Returns.{return_row}
use Rattle.lowered_statements.specs.Statements.{StmtTree, StmtTrees, low_s, low_all}
use Rattle.lowered_labels.specs.Used.{GoesWithin, AllGoWithin}
use Rattle.c_tests_agree.specs.Tested.{AreMarkedOnce}
use Rattle.c_stmt_agreement.specs.Comings.{Activation, HasFrame, Ways, Ending}
use Rattle.c_stmt_agreement.specs.Laws.{IsFinal}
use Rattle.c_stmt_agreement.specs.LoweredStmt.{LoweredStmt, LoweredStmts}
use Rattle.c_stmts_agree.specs.Parts.{ValueAgrees, PartsAgree, AllPartsAgree}
use Rattle.c_stmts_agree.specs.Tables.{HasTables}
use Rattle.c_stmts_agree.specs.Ways.{AreWays, IsEnding}

-- A statement whose parts agree is lowered, in a body each label of which is marked once, where its jumps stay in the function and its tables are the unit's: from each state in which the
-- run stands before it, or behind a label in it, the run comes to what C's execution comes to.
abbrev pub StatementsAgree : Type 0
StatementsAgree =
    (p : Activation) → HasFrame p → AreMarkedOnce p.scene.body → (f : Function) (e : Ending) → IsEnding f e → (x : Exits) (y : Ways) (breaks continues : Bool) → AreWays p f x y breaks continues
    → (t : StmtTree) → PartsAgree p f e t → GoesWithin f breaks continues t → (b : Body) → p.locals ≤ length b.low.slots → HasTables p f (low_s f x t b)
    → IsFinal p (low_s f x t b).low
    → LoweredStmt p y e t b.low (low_s f x t b).low

-- so are statements one behind the other
abbrev pub SequencesAgree : Type 0
SequencesAgree =
    (p : Activation) → HasFrame p → AreMarkedOnce p.scene.body → (f : Function) (e : Ending) → IsEnding f e → (x : Exits) (y : Ways) (breaks continues : Bool) → AreWays p f x y breaks continues
    → (ts : StmtTrees) → AllPartsAgree p f e ts → AllGoWithin f breaks continues ts → (b : Body) → p.locals ≤ length b.low.slots → HasTables p f (low_all f x ts b)
    → IsFinal p (low_all f x ts b).low
    → LoweredStmts p y e ts b.low (low_all f x ts b).low

-- ---- returns

-- without a value, or with 0 where the function gives 0 then
abbrev pub EmptyReturnsAgree : Type 0
EmptyReturnsAgree =
    (p : Activation) → HasFrame p → (f : Function) (e : Ending) → e.gives_zero ≡ f.gives_zero → (y : Ways) (l : Low) → p.locals ≤ length l.slots → IsFinal p (return_row f None l)
    → LoweredStmt p y e (stmt.Return None) l (return_row f None l)

-- with a scalar
abbrev pub ScalarReturnsAgree : Type 0
ScalarReturnsAgree =
    (p : Activation) → HasFrame p → (f : Function) (e : Ending) → is_record f.result ≡ false → e.copy ≡ None → (x : CoreTree) → ValueAgrees p f x → (y : Ways) (l : Low) → p.locals ≤ length l.slots
    → IsFinal p (return_row f (Some x) l) → LoweredStmt p y e (stmt.Return (Some x)) l (return_row f (Some x) l)
