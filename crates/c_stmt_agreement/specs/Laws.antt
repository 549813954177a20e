-- What statements keep, by what their parts keep.
-- Source: ISO/IEC 9899:1990, 6.6.
use Rattle.std.specs.Prelude.{◌≡◌, ◌≤◌, ℕ, Bool, true, not, IfSome, Option, Some, None, List, [], length}
use Rattle.objects.specs.declared.value.Value.{Value}
use Rattle.objects.specs.declared.value.Value.TheVariants.{Number, Pointer, Function}
use Rattle.c_types.specs.CType.{CType}
use Rattle.c_meaning.specs.declared.core_stmt.CoreCase.{CoreCase}
use Rattle.c_meaning.specs.StmtTrees.{StmtOf, StmtsOf}
use Rattle.c_meaning.specs.StmtTrees as stmt
use Rattle.c_meaning.specs.Units.{are_among, is_among, labels}
use Rattle.c_meaning.specs.Values.{CoreTree}
use Rattle.c_runs.specs.Expressions.{eval, test}
use Rattle.c_runs.specs.Outcomes.{Undefined, OutOfTurns, Exit, Result, Gives, GivesNone, Ends}
use Rattle.c_runs.specs.Run.{context}
use Rattle.c_runs.specs.Soundness.{IsTame}
use Rattle.c_runs.specs.Statements.{chosen, last_and_test, maybe_test}
use Rattle.c_runs.specs.Worlds as c
use Rattle.piece_runs.specs.Reaches.{Stops}
use Rattle.c_expr_agreement.specs.LoweredExpr.{Left}
use Rattle.lowered_forms.specs.Lows.{Low, jumped, marked}
use Rattle.lowered_forms.specs.Values.{Lowered}
use Rattle.c_straight_agree.specs.Agreement.{IsPerformed}
use Rattle.c_straight_agree.specs.Finals.{Final}
use Rattle.c_tests_agree.specs.Tested.{AreMarkedOnce, Label, low_at, jumps, IsTested}
use Rattle.c_stmt_agreement.specs.Comings.{Activation, HasFrame, Origin, Ways, Ending, Came}
use Rattle.c_stmt_agreement.specs.LoweredStmt.{StandsAt, LoweredStmt, LoweredStmts, LoweredTest, ComesTo, Leads}

-- the open block of this place comes to be one of the body's
abbrev pub IsFinal : Activation → Low → Type 0
IsFinal p a = Final p.scene.body.pieces a

-- ---- nothing, expressions, and jumps

abbrev pub NothingIsLowered : Type 0
NothingIsLowered = (p : Activation) (y : Ways) (e : Ending) (a : Low) → LoweredStmt p y e stmt.Nothing a a

-- an expression whose value isn't used
abbrev pub ExpressionIsLowered : Type 0
ExpressionIsLowered =
    (p : Activation) → HasFrame p → (y : Ways) (e : Ending) (x : CoreTree) → IsTame x → (a : Low) → p.locals ≤ length a.slots → (r : Lowered) → IsPerformed p.scene p.layout x a r → IsFinal p r.low
    → LoweredStmt p y e (stmt.Expression x) a r.low

abbrev pub BreakIsLowered : Type 0
BreakIsLowered = (p : Activation) (y : Ways) (e : Ending) (a b : Low) → ComesTo p a y.breaks → LoweredStmt p y e stmt.Break a b

abbrev pub ContinueIsLowered : Type 0
ContinueIsLowered = (p : Activation) (y : Ways) (e : Ending) (a b : Low) → Leads p a y.continues → LoweredStmt p y e stmt.Continue a b

abbrev pub GotoIsLowered : Type 0
GotoIsLowered = (p : Activation) (y : Ways) (e : Ending) (l : ℕ) (a b : Low) → Leads p a (y.labels l) → LoweredStmt p y e (stmt.Goto l) a b

-- ---- sequences

abbrev pub NoStatementIsLowered : Type 0
NoStatementIsLowered = (p : Activation) (y : Ways) (e : Ending) (a : Low) → LoweredStmts p y e stmt.NoStmt a a

abbrev pub SequenceIsLowered : Type 0
SequenceIsLowered =
    (p : Activation) (y : Ways) (e : Ending) (t : StmtOf CType) (ts : StmtsOf CType) (a b d : Low) → LoweredStmt p y e t a b → LoweredStmts p y e ts b d → LoweredStmts p y e (stmt.Stmts t ts) a d

-- A goto to a label in the block goes on there, where a block of forests begins.
abbrev pub BlockIsLowered : Type 0
BlockIsLowered =
    (p : Activation) (y : Ways) (e : Ending) (first locals : ℕ) (ts : StmtsOf CType) (a b : Low) → ((l : ℕ) → (y.labels l).entries ≡ [])
    → LoweredStmts p y e ts a b → LoweredStmt p y e (stmt.Block first locals ts) a b

-- behind its label
abbrev pub LabelIsLowered : Type 0
LabelIsLowered =
    (p : Activation) (y : Ways) (e : Ending) (l : ℕ) (t : StmtOf CType) (a b : Low) → ComesTo p a (y.labels l) → LoweredStmt p y e t (y.labels l) b → LoweredStmt p y e (stmt.Label l t) a b

-- ---- choices and loops: C's test, and the run's

abbrev pub TestIsLowered : Activation → (Bool → Bool) → CoreTree → Low → Low → Low → Type 0
TestIsLowered p jumps x to a b = LoweredTest p jumps (λ k old. test (context p.scene.unit p.scene.lowered.order) x k old) to a b

-- a test that is lowered to a label goes there, or comes behind it
abbrev pub TestsAreTests : Type 0
TestsAreTests =
    (p : Activation) → HasFrame p → (x : CoreTree) → IsTame x → (n : ℕ) (when : Bool) (a b : Low) → p.locals ≤ length a.slots → IsTested p.scene p.layout x n when a b → IsFinal p b → (t : Label p.scene n)
    → TestIsLowered p (jumps when) x (low_at p.scene n t) a b

-- where the test fails, the second statement is entered; behind both the run comes to the same place
abbrev pub ChoiceIsLowered : Type 0
ChoiceIsLowered =
    (p : Activation) (y : Ways) (e : Ending) (x : CoreTree) (t u : StmtOf CType) (a first behind second last b : Low) → TestIsLowered p not x second a first
    → LoweredStmt p y e t first behind → ComesTo p behind b
    → LoweredStmt p y e u second last → ComesTo p last b
    → LoweredStmt p y e (stmt.If x t u) a b

-- How a loop's body stands among its places: a block of forests begins with it, and behind it a step pays for the turn of the next repetition.
pub record Looped (p : Activation) (y : Ways) (e : Ending) (t : StmtOf CType) (top behind next end : Low) : Type 0 where
  pub begins : top.entries ≡ []
  pub body : LoweredStmt p (record { breaks = end; continues = next; labels = y.labels }) e t top behind
  pub leads : Leads p behind next

-- It begins at its test. What stands behind that where it fails comes to the loop's end.
abbrev pub WhileIsLowered : Type 0
WhileIsLowered =
    (p : Activation) (y : Ways) (e : Ending) (x : CoreTree) (t : StmtOf CType) (a top behind next last b : Low) → Looped p y e t top behind next b → Leads p a next
    → TestIsLowered p (λ v. v) x top next last → ComesTo p last b
    → LoweredStmt p y e (stmt.While x t) a b

-- it begins with its body
abbrev pub DoIsLowered : Type 0
DoIsLowered =
    (p : Activation) (y : Ways) (e : Ending) (x : CoreTree) (t : StmtOf CType) (a top behind next last b : Low) → Looped p y e t top behind next b → Leads p a top
    → TestIsLowered p (λ v. v) x top next last → ComesTo p last b
    → LoweredStmt p y e (stmt.Do t x) a b

-- an expression whose value isn't used, or none, as a statement
abbrev pub drop_of : Option CoreTree → StmtOf CType
drop_of None = stmt.Nothing
drop_of (Some x) = stmt.Expression x

-- a `for`'s test, which always holds where there is none; and its last part with the test behind it
abbrev pub MaybeTestIsLowered : Activation → Option CoreTree → Low → Low → Low → Type 0
MaybeTestIsLowered p x to a b = LoweredTest p (λ v. v) (λ k old. maybe_test (context p.scene.unit p.scene.lowered.order) x k old) to a b

abbrev pub LastAndTestAreLowered : Activation → Option CoreTree → Option CoreTree → Low → Low → Low → Type 0
LastAndTestAreLowered p last x to a b = LoweredTest p (λ v. v) (λ k old. last_and_test (context p.scene.unit p.scene.lowered.order) last x k old) to a b

abbrev pub LastIsLowered : Type 0
LastIsLowered =
    (p : Activation) (y : Ways) (e : Ending) (last x : Option CoreTree) (to next behind here b : Low) → LoweredStmt p y e (drop_of last) next behind → ComesTo p behind here → MaybeTestIsLowered p x to here b
    → LastAndTestAreLowered p last x to next b

-- It begins at its test, behind the first part.
abbrev pub ForIsLowered : Type 0
ForIsLowered =
    (p : Activation) (y : Ways) (e : Ending) (first x last : Option CoreTree) (t : StmtOf CType) (a start here top behind next final b : Low)
    → LoweredStmt p y e (drop_of first) a start → Leads p start here
    → MaybeTestIsLowered p x top here final
    → Looped p y e t top behind next b → LastAndTestAreLowered p last x top next final → ComesTo p final b
    → LoweredStmt p y e (stmt.For first x last t) a b

-- ---- switches

-- where C chooses to go: behind a label, or to the end
abbrev pub chosen_place : Ways → Low → Option ℕ → Low
chosen_place y end None = end
chosen_place y end (Some l) = y.labels l

-- by the value of a switch; nothing is asked where C's switch is undefined
abbrev pub CameByValue : Activation → Ways → Origin → Low → List CoreCase → Option ℕ → c.World → ℕ → Value → Type 0
CameByValue p y o end cases default old k (Number n) = Came p o (chosen_place y end (chosen cases default n)) old k
CameByValue p y o end cases default old k (Pointer object offset) = Unit {0}
CameByValue p y o end cases default old k (Function f) = Unit {0}

abbrev pub CameChosen : Activation → Ways → Origin → Low → List CoreCase → Option ℕ → Result → Type 0
CameChosen p y o end cases default (Gives v k old) = CameByValue p y o end cases default old k v
CameChosen p y o end cases default (GivesNone line k old) = Unit {0}
CameChosen p y o end cases default (Ends (Undefined cause line) old) = Unit {0}
CameChosen p y o end cases default (Ends OutOfTurns old) = Stops o.start o.turns old.trace
CameChosen p y o end cases default (Ends (Exit status) old) = Left p.scene o.start o.map status old

-- the value and the search lead there
abbrev pub LoweredSearch : Activation → Ways → CoreTree → List CoreCase → Option ℕ → Low → Low → Type 0
LoweredSearch p y x cases default a end =
    (o : Origin) (k : ℕ) → StandsAt p o a k → CameChosen p y o end cases default (eval (context p.scene.unit p.scene.lowered.order) x k o.old)

-- behind the search stands the body, which is entered at the cases' labels
abbrev pub SwitchIsLowered : Type 0
SwitchIsLowered =
    (p : Activation) (y : Ways) (e : Ending) (x : CoreTree) (cases : List CoreCase) (default : Option ℕ) (t : StmtOf CType) (a first behind b : Low)
    → are_among cases (labels t) ≡ true → IfSome default (λ l. is_among l (labels t) ≡ true)
    → LoweredSearch p y x cases default a b
    → LoweredStmt p (record { breaks = b; continues = y.continues; labels = y.labels }) e t first behind → ComesTo p behind b
    → LoweredStmt p y e (stmt.Switch x cases default t) a b

-- ---- labels and jumps in forests

-- a block that ends before a label leads behind it
abbrev pub MarksLead : Type 0
MarksLead = (p : Activation) → HasFrame p → (n : ℕ) (a : Low) → IsFinal p (marked n a) → Leads p a (marked n a)

-- and a block that ends with a jump to a label leads there
abbrev pub JumpsLead : Type 0
JumpsLead = (p : Activation) → HasFrame p → AreMarkedOnce p.scene.body → (n : ℕ) (a : Low) → p.locals ≤ length a.slots → IsFinal p (jumped n a) → (t : Label p.scene n) → Leads p a (low_at p.scene n t)
