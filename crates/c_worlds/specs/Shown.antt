-- What is kept in memory, as the meaning of C has it; and what an evaluation comes to.
use Rattle.std.specs.Prelude.{◌≡◌, ℕ, List, [], Option, Some, None, Result as Checked, Ok, Err}
use Rattle.lcc_base.specs.Traces.{Event}
use Rattle.objects.specs.declared.value.Value.{Value}
use Rattle.c_meaning.specs.Values.{CoreTree}
use Rattle.c_runs.specs.Worlds.{World as RunWorld}
use Rattle.c_runs.specs.Outcomes.{Result, Gives, GivesNone, Ends, Undefined as Undefines, Out, Next, Over}
use Rattle.c_runs.specs.Expressions.{Part}
use Rattle.c_worlds.specs.declared.stop.Stop.{Stop}
use Rattle.c_worlds.specs.declared.stop.Stop.TheVariants.{Undefined, Memory}
use Rattle.c_worlds.specs.declared.world.World.{World}

-- ---- worlds

-- the world, behind what was seen of the run
abbrev pub shown : World → List Event → RunWorld
shown w t = record { storage = w.storage; locals = w.locals.here; input = w.input.now; trace = t }

-- the output and the locals of the calls that wait stay
abbrev pub StaysBelow : World → World → Type 0
StaysBelow old new = (new.output ≡ old.output) × (new.locals ≡ old.locals)

-- ---- what comes of an evaluation

-- a value, or none, with the turns that are left
abbrev pub gave : Option Value → ℕ → RunWorld → Result
gave (Some v) k w = Gives v k w
gave None k w = GivesNone 0 k w

-- An evaluation that calls nothing comes to this, with whatever turns, and whatever was seen before. Nothing is said where
-- memory is wanting.
abbrev pub Comes : (ℕ → RunWorld → Result) → World → World → Checked (Option Value) Stop → Type 0
Comes does old new (Ok v) = (k : ℕ) (t : List Event) → does k (shown old t) ≡ gave v k (shown new t)
Comes does old new (Err (Undefined cause line)) = (k : ℕ) (t : List Event) → does k (shown old t) ≡ Ends (Undefines cause line) (shown new t)
Comes does old new (Err Memory) = Unit {0}

-- the same of one that is used, and so gives a value
abbrev pub Gets : (ℕ → RunWorld → Result) → World → World → Checked Value Stop → Type 0
Gets does old new (Ok v) = (k : ℕ) (t : List Event) → does k (shown old t) ≡ Gives v k (shown new t)
Gets does old new (Err (Undefined cause line)) = (k : ℕ) (t : List Event) → does k (shown old t) ≡ Ends (Undefines cause line) (shown new t)
Gets does old new (Err Memory) = Unit {0}

-- the same of what is done and then goes on
abbrev pub Goes : (ℕ → RunWorld → Out) → World → World → Checked (Unit {0}) Stop → Type 0
Goes does old new (Ok _) = (k : ℕ) (t : List Event) → does k (shown old t) ≡ Next k (shown new t)
Goes does old new (Err (Undefined cause line)) = (k : ℕ) (t : List Event) → does k (shown old t) ≡ Over (Undefines cause line) (shown new t)
Goes does old new (Err Memory) = Unit {0}

-- ---- parts

-- a part that has given this value
abbrev pub giving : CoreTree → Value → Part
giving c v = record { tree = c; does = λ k w. Gives v k w }

-- a part of which this comes
abbrev pub coming : CoreTree → Result → Part
coming c r = record { tree = c; does = λ k w. r }

-- a world that isn't looked at
abbrev pub nowhere : RunWorld
nowhere = record { storage = record { objects = []; made = 0 }; locals = []; input = []; trace = [] }
