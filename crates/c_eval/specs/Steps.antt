-- Steps of a run: what is under way changes, and how the run ends stays.
use Rattle.std.specs.Prelude.{◌≡◌, ◌<◌, ℕ, ◌+◌, ◌++◌, Option, Some, None, List, [], ◌∷◌, take, drop}
use Rattle.std.specs.Borrow.{Bor}
use Rattle.lcc_base.specs.Traces.{Event, Opened, output_of}
use Rattle.objects.specs.declared.value.Value.{Value}
use Rattle.c_entries.specs.declared.argument.Argument.{Argument as PassedArgument}
use Rattle.c_entries.specs.declared.leaving.Waiting.{Waiting}
use Rattle.c_entries.specs.Arguments.{ArePassedAs, arguments_seen}
use Rattle.c_meaning.specs.declared.core_expr.CoreExpr.{CoreExpr}
use Rattle.c_meaning.specs.CoreTrees.{CoreOf, line_of, type_of}
use Rattle.c_meaning.specs.Units.{FunctionTree}
use Rattle.c_runs.specs.Calls.{Argument, returned}
use Rattle.c_runs.specs.Outcomes.{Return}
use Rattle.c_runs.specs.Run.{body_run}
use Rattle.c_runs.specs.Worlds.{World}
use Rattle.c_worlds.specs.declared.program.Program.{Program}
use Rattle.c_worlds.specs.OpenLocals.{all_locals}
use Rattle.c_worlds.specs.Programs.{known, unit_of}
use Rattle.c_worlds.specs.Shown.{shown}
use Rattle.c_eval.specs.declared.focus.Focus.{Focus}
use Rattle.c_eval.specs.declared.frame.Frame.{Frame}
use Rattle.c_eval.specs.declared.machine.Machine.{Machine}
use Rattle.c_eval.specs.Ends.{Came, Final, OfExpression, OfStatement, ended}
use Rattle.c_eval.specs.Frames.{frames}
use Rattle.c_eval.specs.Stacks.{called, passed, plug, waiting_call}
use Rattle.c_eval.specs.States.{ends, own, state}
use Rattle.c_eval.specs.Weights.{going, weight, weights}

-- how the run ends from here, behind these events
abbrev pub state_of : Program → Machine → Focus → List Event → Final
state_of p m focus t = state p m.world.locals.below (frames m.stack) focus m.turns (shown m.world t)

-- how it ends if this comes to the topmost frame
abbrev pub ends_of : Program → Machine → Came → Final
ends_of p m came = ends p m.world.locals.below (frames m.stack) came

-- nothing is seen in between
abbrev pub Same : Program → Machine → Focus → Machine → Focus → Type 0
Same p old from new to = (t : List Event) → state_of p new to t ≡ state_of p old from t

-- what is seen in between is the output that came
abbrev pub Leads : Program → Machine → Focus → Machine → Focus → Type 0
Leads p old from new to =
    (t : List Event) → output_of t ≡ old.world.output
    → (t1 : List Event) × (output_of t1 ≡ new.world.output) × (state_of p new to t1 ≡ state_of p old from t)

-- no turn is spent, and nothing is written
abbrev pub IsQuiet : Machine → Machine → Type 0
IsQuiet old new = (new.turns ≡ old.turns) × (new.world.output ≡ old.world.output)

-- fewer steps are left until a turn is spent
abbrev pub IsLess : Machine → Focus → Machine → Focus → Type 0
IsLess old from new to = weight to + weights (frames new.stack) < weight from + weights (frames old.stack)

-- ---- parts of steps

-- How the run ends from here is how it ends if this comes to the topmost frame of before.
abbrev pub Meets : Program → Machine → (ℕ → World → Came) → Machine → Focus → Type 0
Meets p old come new to = (t : List Event) → state_of p new to t ≡ ends_of p old (come old.turns (shown old.world t))

-- the same where something may be seen in between
abbrev pub Reaches : Program → Machine → (ℕ → World → Came) → Machine → Focus → Type 0
Reaches p old come new to =
    (t : List Event) → output_of t ≡ old.world.output
    → (t1 : List Event) × (output_of t1 ≡ new.world.output) × (state_of p new to t1 ≡ ends_of p old (come old.turns (shown old.world t)))

-- fewer steps are left than so many above those of the frames of before
abbrev pub IsBelow : ℕ → Machine → Machine → Focus → Type 0
IsBelow n old new to = weight to + weights (frames new.stack) < n + weights (frames old.stack)

-- ---- calls

-- The run ends as if the call that waits came to what its function's body gives.
abbrev pub Resumes : Program → CoreOf ℕ → Waiting → Option Value → ℕ → Machine → Machine → Focus → Type 0
Resumes p call x v line old new to =
    (t : List Event) → output_of t ≡ old.world.output
    → (t1 : List Event) × (output_of t1 ≡ new.world.output)
    × (state_of p new to t1
    ≡ ended (plug p (own p) (take x.base old.world.locals.below) (frames old.stack)
    (OfExpression (returned (unit_of p).tags (waiting_call (known p (type_of call)) (line_of call) x.result x.objects (drop x.base old.world.locals.below)) (Return v line old.turns (shown old.world t))))))

-- The run ends as if the body of a function with these arguments came to the topmost frame, with the locals of the running call
-- among those that wait.
abbrev pub Enters : Program → FunctionTree → ℕ → List PassedArgument → Machine → Machine → Focus → Type 0
Enters p f number ps old new to =
    (xs : List Argument) → ArePassedAs ps xs → (t : List Event)
    → state_of p new to (t ++ Opened number ∷ [])
    ≡ ended (plug p (own p) (all_locals old.world.locals) (frames old.stack) (OfStatement (body_run (own p) f number xs old.turns (shown old.world t))))

-- The arguments on top of a stack and the call below them were taken off.
abbrev pub IsTaken : Program → List Frame → List Frame → List PassedArgument → Option (Bor CoreExpr × Value) → Type 0
IsTaken p old new xs None = called old ≡ None
IsTaken p old new xs (Some x) =
    (called old ≡ Some (x.0.now, x.1))
    × ((arguments_seen p xs ≡ passed p old) × ((below : List Value) (came : Came) → ends p below new came ≡ ends p below old came))

-- ---- turns

-- a turn was spent, or the run is over
abbrev pub IsSpent : Machine → Machine → Focus → Type 0
IsSpent old new to = new.turns + going to < old.turns + 1
