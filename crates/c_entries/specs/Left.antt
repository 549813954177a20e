-- Calls that are over.
use Rattle.std.specs.Prelude.{◌≡◌, ℕ, ◌++◌, List, [], ◌∷◌, Option, Some, None, length, drop, Result as Checked, Ok, Err}
use Rattle.lcc_base.specs.Traces.{Event, Closed}
use Rattle.objects.specs.declared.value.Value.{Value}
use Rattle.c_meaning.specs.CoreTrees.{CoreOf, type_of, line_of}
use Rattle.c_runs.specs.Calls.{Call, handed, returned}
use Rattle.c_runs.specs.Expressions.{result_place}
use Rattle.c_runs.specs.Outcomes.{Result, Gives, GivesNone, Ends, Undefined as Undefines, Return}
use Rattle.c_runs.specs.Worlds.{World as RunWorld, left_behind}
use Rattle.c_entries.specs.declared.leaving.Waiting.{Waiting}
use Rattle.c_worlds.specs.declared.program.Program.{Program}
use Rattle.c_worlds.specs.declared.stop.Stop.{Stop}
use Rattle.c_worlds.specs.declared.stop.Stop.TheVariants.{Undefined, Memory}
use Rattle.c_worlds.specs.declared.world.World.{World}
use Rattle.c_worlds.specs.Programs.{known, unit_of}
use Rattle.c_worlds.specs.Shown.{shown}

-- The call that waits, as far as its end asks: its type and line, the place of its result, how many objects lived before it, and
-- the caller's locals.
pub record IsWaiting (p : Program) (c : CoreOf ℕ) (x : Waiting) (below : List Value) (a : Call) : Type 0 where
  pub of : a.of ≡ known p (type_of c)
  pub line : a.line ≡ line_of c
  pub result : a.result ≡ result_place a.of (drop x.base below) x.result
  pub objects : length a.world.storage.objects ≡ x.objects
  pub locals : a.world.locals ≡ drop x.base below

-- what the caller gets of a value that a function of this result gives
abbrev pub Hands : Program → ℕ → Waiting → Value → ℕ → World → World → Checked Value Stop → Type 0
Hands p of x v line old new (Ok u) =
    (before : RunWorld) (k : ℕ) (t : List Event)
    → handed (unit_of p).tags (known p of) (result_place (known p of) (drop x.base old.locals.below) x.result) v line k before (shown old t)
    ≡ Gives u k (left_behind Closed before (shown new t))
Hands p of x v line old new (Err (Undefined cause l)) =
    (before : RunWorld) (k : ℕ) (t : List Event)
    → handed (unit_of p).tags (known p of) (result_place (known p of) (drop x.base old.locals.below) x.result) v line k before (shown old t)
    ≡ Ends (Undefines cause l) (shown new t)
Hands p of x v line old new (Err Memory) = Unit {0}

-- what a call comes to
abbrev pub given : Option Value → ℕ → ℕ → RunWorld → Result
given (Some v) line k w = Gives v k w
given None line k w = GivesNone line k w

abbrev pub Leaves : Program → CoreOf ℕ → Waiting → Option Value → ℕ → World → World → Checked (Option Value) Stop → Type 0
Leaves p c x v line old new (Ok u) =
    (a : Call) → IsWaiting p c x old.locals.below a → (k : ℕ) (t : List Event)
    → returned (unit_of p).tags a (Return v line k (shown old t)) ≡ given u (line_of c) k (shown new (t ++ Closed ∷ []))
Leaves p c x v line old new (Err (Undefined cause l)) =
    (a : Call) → IsWaiting p c x old.locals.below a → (k : ℕ) (t : List Event)
    → returned (unit_of p).tags a (Return v line k (shown old t)) ≡ Ends (Undefines cause l) (shown new t)
Leaves p c x v line old new (Err Memory) = Unit {0}
