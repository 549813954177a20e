-- What the pieces that are added for a statement keep. Which pieces these are is left open: it is said of the places before and behind them, and
-- of those to which the statement may go.
-- Source: ISO/IEC 9899:1990, 5.1.2.3, 6.6.
use Rattle.std.specs.Prelude.{◌≡◌, ℕ, Bool, true, false}
use Rattle.forests.specs.Words.{Word}
use Rattle.c_types.specs.CType.{CType}
use Rattle.c_meaning.specs.StmtTrees.{StmtOf, StmtsOf}
use Rattle.c_runs.specs.Outcomes.{Undefined, OutOfTurns, Exit, Result, Gives, GivesNone, Ends, Out, is_true}
use Rattle.c_runs.specs.Run.{context}
use Rattle.c_runs.specs.Statements.{Entry, Start, At, exec, exec_all, has, any_has}
use Rattle.c_runs.specs.Worlds as c
use Rattle.piece_runs.specs.Pieces.{Front}
use Rattle.piece_runs.specs.Reaches.{Stops}
use Rattle.c_expr_agreement.specs.LoweredExpr.{Left}
use Rattle.lowered_forms.specs.Lows.{Low}
use Rattle.c_straight_agree.specs.Layouts.{HoldsWholes}
use Rattle.c_straight_agree.specs.Standing.{Standing, IsSoundIn}
use Rattle.c_stmt_agreement.specs.Comings.{Activation, Origin, with_turn, Ways, Ending, HoldsResult, AreOpen, Came, CameFrom}

-- The run stands at a place, in a sound world of C, in which so many turns are left, and parameter words of structures have the addresses of their
-- bytes.
pub record StandsAt (p : Activation) (o : Origin) (a : Low) (k : ℕ) : Type 0 where
  pub front : Front p.scene.body.pieces a.pieces a.entries
  pub values : ℕ → Word
  pub stands : Standing p.scene o.start o.turns a front o.map o.old values o.world k
  pub sound : IsSoundIn p.scene o.old
  pub wholes : HoldsWholes p.scene p.layout o.world
  pub result : HoldsResult p o.map o.world
  pub opens : AreOpen p o.world

-- ---- statements

-- a statement is entered at its start, or at a label in it
abbrev pub IsEntry : (ℕ → Bool) → Entry → Type 0
IsEntry labels Start = Unit {0}
IsEntry labels (At l) = labels l ≡ true

abbrev pub entered_at : Ways → Low → Entry → Low
entered_at y a Start = a
entered_at y a (At l) = y.labels l

-- From each state that stands before what is executed, or behind a label in it, the run comes to what the execution comes to.
abbrev pub LoweredRun : Activation → Ways → Ending → (ℕ → Bool) → (Entry → ℕ → c.World → Out) → Low → Low → Type 0
LoweredRun p y e labels run a b = (n : Entry) → IsEntry labels n → (o : Origin) (k : ℕ) → StandsAt p o (entered_at y a n) k → CameFrom p y e o b (run n k o.old)

abbrev pub LoweredStmt : Activation → Ways → Ending → StmtOf CType → Low → Low → Type 0
LoweredStmt p y e t a b = LoweredRun p y e (has t) (λ n k old. exec (context p.scene.unit p.scene.lowered.order) t n k old) a b

abbrev pub LoweredStmts : Activation → Ways → Ending → StmtsOf CType → Low → Low → Type 0
LoweredStmts p y e ts a b = LoweredRun p y e (any_has ts) (λ n k old. exec_all (context p.scene.unit p.scene.lowered.order) ts n k old) a b

-- ---- from one place to another

-- the run comes there, in the same world of C, with as many turns left
abbrev pub ComesTo : Activation → Low → Low → Type 0
ComesTo p a b = (o : Origin) (k : ℕ) → StandsAt p o a k → Came p o b o.old k

-- and takes a step, which pays for a turn
abbrev pub Leads : Activation → Low → Low → Type 0
Leads p a b = (o : Origin) (k : ℕ) → StandsAt p o a k → Came p (with_turn o) b o.old k

-- ---- tests

-- by whether it jumps
abbrev pub Tested : Bool → Activation → Origin → Low → Low → c.World → ℕ → Type 0
Tested true p o to b old k = Came p o to old k
Tested false p o to b old k = Came p o b old k

-- by what the test of C comes to: it jumps where the value is true
abbrev pub CameTested : Activation → Origin → Low → Low → (Bool → Bool) → Result → Type 0
CameTested p o to b jumps (Gives v k old) = Tested (jumps (is_true v)) p o to b old k
CameTested p o to b jumps (GivesNone line k old) = Unit {0}
CameTested p o to b jumps (Ends (Undefined cause line) old) = Unit {0}
CameTested p o to b jumps (Ends OutOfTurns old) = Stops o.start o.turns old.trace
CameTested p o to b jumps (Ends (Exit status) old) = Left p.scene o.start o.map status old

-- From each state that stands before the test the run goes to one place, or comes behind it.
abbrev pub LoweredTest : Activation → (Bool → Bool) → (ℕ → c.World → Result) → Low → Low → Low → Type 0
LoweredTest p jumps run to a b = (o : Origin) (k : ℕ) → StandsAt p o a k → CameTested p o to b jumps (run k o.old)
