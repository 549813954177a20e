-- What holds of runs: turns, traces, more turns, calls by themselves.
use Rattle.std.specs.Prelude.{◌≡◌, ◌≤◌, Bool, ℕ, ◌+◌, Some, List, [], ◌++◌, slice_get}
use Rattle.lcc_base.specs.declared.order.Order.{Order}
use Rattle.c_types.specs.CType.{CType}
use Rattle.c_meaning.specs.StmtTrees.{StmtOf}
use Rattle.c_meaning.specs.Units.{CoreUnit, FunctionTree, UnitTree, unit_seen}
use Rattle.c_meaning.specs.Values.{CoreTree}
use Rattle.lcc_base.specs.Prefixes.{Starts}
use Rattle.lcc_base.specs.Traces.{Event}
use Rattle.c_runs.specs.Worlds.{World}
use Rattle.c_runs.specs.Outcomes.{Undefined, OutOfTurns, Exit, Result, Gives, GivesNone, Ends, Out, Next, Break, Continue, Return, Goto, Over, catch}
use Rattle.c_runs.specs.Calls.{Call}
use Rattle.c_runs.specs.Expressions.{eval}
use Rattle.c_runs.specs.Statements.{Entry, exec, round, loop, jump}
use Rattle.c_runs.specs.Run.{Ending, function_run, call, context, run, output}
use Rattle.c_runs.specs.Room.{depth}

-- ---- turns fall

abbrev pub Falls : ℕ → Result → Type 0
Falls n (Gives v k w) = k ≤ n
Falls n (GivesNone line k w) = k ≤ n
Falls n (Ends how w) = Unit {0}

abbrev pub FallsOut : ℕ → Out → Type 0
FallsOut n (Next k w) = k ≤ n
FallsOut n (Break k w) = k ≤ n
FallsOut n (Continue k w) = k ≤ n
FallsOut n (Return v line k w) = k ≤ n
FallsOut n (Goto l k w) = k ≤ n
FallsOut n (Over how w) = Unit {0}

abbrev pub Falling : (ℕ → World → Result) → Type 0
Falling act = (k : ℕ) (w : World) → Falls k (act k w)

abbrev pub FallingOut : (ℕ → World → Out) → Type 0
FallingOut act = (k : ℕ) (w : World) → FallsOut k (act k w)

abbrev pub EvalFalls : Type 0
EvalFalls = (u : UnitTree) (order : Order) (c : CoreTree) → Falling (λ k w. eval (context u order) c k w)

abbrev pub ExecFalls : Type 0
ExecFalls = (u : UnitTree) (order : Order) (s : StmtOf CType) (e : Entry) → FallingOut (λ k w. exec (context u order) s e k w)

-- ---- the three equations, by which no table is opened again

-- a loop is a round over itself
abbrev pub LoopIs : Type 0
LoopIs =
    (body : ℕ → World → Out) (between : ℕ → World → Result) → FallingOut body → Falling between → (k : ℕ) (w : World)
    → loop body between k w ≡ round body between (λ k1 w1. loop body between k1 w1) k w

-- a caught goto is a catch over itself
abbrev pub JumpIs : Type 0
JumpIs =
    (within : ℕ → Bool) (body : ℕ → ℕ → World → Out) → ((l : ℕ) → FallingOut (λ k w. body l k w)) → (l k : ℕ) (w : World)
    → jump within body l k w ≡ catch within (body l k w) (λ m k1 w1. jump within body m k1 w1)

-- a call runs its function's body in the context itself
abbrev pub CallIs : Type 0
CallIs = (u : UnitTree) (order : Order) (k : ℕ) (a : Call) → call u order k a ≡ function_run (context u order) (slice_get u.functions a.function) a k

-- ---- more turns

-- with more turns a run whose turns were spent has shown at least as much; any other run is the same
abbrev pub IsFurther : Ending → Ending → Type 0
IsFurther e f = elim (e.how) as (λ h. Type 0) [
  | Undefined cause line ↦ f ≡ e
  | OutOfTurns ↦ Starts e.world.trace f.world.trace
  | Exit status ↦ f ≡ e
]

abbrev pub RunsGoFurther : Type 0
RunsGoFurther = (u : CoreUnit) (order : Order) (input : List ℕ) (k more : ℕ) → IsFurther (run u order input k) (run u order input (k + more))

-- so its output is one that goes on, and no less room was taken
abbrev pub OutputsGrow : Type 0
OutputsGrow = (u : CoreUnit) (order : Order) (input : List ℕ) (k more : ℕ) → (rest : List ℕ) × (output (run u order input k) ++ rest ≡ output (run u order input (k + more)))

abbrev pub DepthsGrow : Type 0
DepthsGrow = (u : CoreUnit) (order : Order) (input : List ℕ) (k more : ℕ) → depth (unit_seen u) (run u order input k) ≤ depth (unit_seen u) (run u order input (k + more))

-- ---- traces only grow, and what was seen before changes nothing

abbrev pub world_of : Result → World
world_of (Gives v k w) = w
world_of (GivesNone line k w) = w
world_of (Ends how w) = w

abbrev pub world_after : Out → World
world_after (Next k w) = w
world_after (Break k w) = w
world_after (Continue k w) = w
world_after (Return v line k w) = w
world_after (Goto l k w) = w
world_after (Over how w) = w

-- the same world, with these events before its own
abbrev pub behind : List Event → World → World
behind before w = record { storage = w.storage; locals = w.locals; input = w.input; trace = before ++ w.trace }

abbrev pub EvalGrows : Type 0
EvalGrows = (u : UnitTree) (order : Order) (c : CoreTree) (k : ℕ) (w : World) → Starts w.trace (world_of (eval (context u order) c k w)).trace

abbrev pub ExecGrows : Type 0
ExecGrows = (u : UnitTree) (order : Order) (s : StmtOf CType) (e : Entry) (k : ℕ) (w : World) → Starts w.trace (world_after (exec (context u order) s e k w)).trace

-- ---- a call stands alone: it has what lives, the input and its arguments

-- the same call where no call is open, and nothing was seen
abbrev pub apart : Call → Call
apart a = record {
  function = a.function;
  arguments = a.arguments;
  of = a.of;
  result = a.result;
  line = a.line;
  world = record { storage = a.world.storage; locals = []; input = a.world.input; trace = [] };
}

-- what it comes to, back in the caller
abbrev pub back_in : World → Result → Result
back_in old (Gives v k w) = Gives v k (record { storage = w.storage; locals = old.locals; input = w.input; trace = old.trace ++ w.trace })
back_in old (GivesNone line k w) = GivesNone line k (record { storage = w.storage; locals = old.locals; input = w.input; trace = old.trace ++ w.trace })
back_in old (Ends how w) = Ends how (behind old.trace w)

abbrev pub CallsStandAlone : Type 0
CallsStandAlone =
    (u : UnitTree) (order : Order) (k : ℕ) (a : Call) (f : FunctionTree) → slice_get u.functions a.function ≡ Some f
    → call u order k a ≡ back_in a.world (call u order k (apart a))
