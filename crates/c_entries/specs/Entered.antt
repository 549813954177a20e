-- Functions that are entered, and arguments of structure type that are copied.
use Rattle.std.specs.Prelude.{◌≡◌, ℕ, ◌++◌, List, [], ◌∷◌, map, Result as Checked, Ok, Err, slice_get}
use Rattle.lcc_base.specs.Traces.{Event, Opened}
use Rattle.objects.specs.declared.value.Value.{Value}
use Rattle.c_types.specs.Table.{types}
use Rattle.c_meaning.specs.declared.core_unit.CoreFunction.{CoreFunction}
use Rattle.c_meaning.specs.CoreTrees.{CoreOf}
use Rattle.c_meaning.specs.Units.{function_seen}
use Rattle.c_runs.specs.Calls.{Argument, opened, with_locals, with_parameter, with_parameters}
use Rattle.c_runs.specs.Expressions.{argument, copied_to}
use Rattle.c_runs.specs.Outcomes.{Result, Ends, Undefined as Undefines, Out, Over}
use Rattle.c_runs.specs.Worlds.{World as RunWorld}
use Rattle.c_entries.specs.declared.argument.Argument.{Argument as PassedArgument}
use Rattle.c_entries.specs.Arguments.{ArePassedAs, IsPassedAs}
use Rattle.c_worlds.specs.declared.program.Program.{Program}
use Rattle.c_worlds.specs.declared.stop.Stop.{Stop}
use Rattle.c_worlds.specs.declared.stop.Stop.TheVariants.{Undefined, Memory}
use Rattle.c_worlds.specs.declared.world.World.{World}
use Rattle.c_worlds.specs.Programs.{Calls, known, setting_of, tree, unit_of}
use Rattle.c_worlds.specs.Shown.{giving, shown}

-- a function of this number, with these arguments, and what is done behind its entry
abbrev opening : Program → CoreFunction → ℕ → List Argument → ℕ → RunWorld → (ℕ → RunWorld → Out) → Out
opening p f number xs k w go = opened (unit_of p) p.order (function_seen (types p.core.now.types) f) number xs k w go

-- It is entered: its parameters and other locals are there, and the call was seen; or an argument can't be narrowed.
abbrev pub Enters : Program → CoreFunction → ℕ → List PassedArgument → World → World → Checked (Unit {0}) Stop → Type 0
Enters p f number ps old new (Ok _) =
    (xs : List Argument) → ArePassedAs ps xs → (go : ℕ → RunWorld → Out) (k : ℕ) (t : List Event)
    → opening p f number xs k (shown old t) go ≡ go k (shown new (t ++ Opened number ∷ []))
Enters p f number ps old new (Err (Undefined cause line)) =
    (xs : List Argument) → ArePassedAs ps xs → (go : ℕ → RunWorld → Out) (k : ℕ) (t : List Event)
    → opening p f number xs k (shown old t) go ≡ Over (Undefines cause line) (shown new (t ++ Opened number ∷ []))
Enters p f number ps old new (Err Memory) = Unit {0}

-- so is a parameter of this type made, of this argument
abbrev pub MakesParameter : Program → ℕ → PassedArgument → World → World → Checked (Unit {0}) Stop → Type 0
MakesParameter p of a old new (Ok _) =
    (x : Argument) → IsPassedAs a x → (go : ℕ → RunWorld → Out) (k : ℕ) (t : List Event)
    → with_parameter (unit_of p).tags p.order (known p of) x k (shown old t) go ≡ go k (shown new t)
MakesParameter p of a old new (Err (Undefined cause line)) =
    (x : Argument) → IsPassedAs a x → (go : ℕ → RunWorld → Out) (k : ℕ) (t : List Event)
    → with_parameter (unit_of p).tags p.order (known p of) x k (shown old t) go ≡ Over (Undefines cause line) (shown new t)
MakesParameter p of a old new (Err Memory) = Unit {0}

-- so are those of these types
abbrev pub MakesParameters : Program → List ℕ → List PassedArgument → World → World → Checked (Unit {0}) Stop → Type 0
MakesParameters p ids ps old new (Ok _) =
    (xs : List Argument) → ArePassedAs ps xs → (go : ℕ → RunWorld → Out) (k : ℕ) (t : List Event)
    → with_parameters (unit_of p).tags p.order (map (known p) ids) xs k (shown old t) go ≡ go k (shown new t)
MakesParameters p ids ps old new (Err (Undefined cause line)) =
    (xs : List Argument) → ArePassedAs ps xs → (go : ℕ → RunWorld → Out) (k : ℕ) (t : List Event)
    → with_parameters (unit_of p).tags p.order (map (known p) ids) xs k (shown old t) go ≡ Over (Undefines cause line) (shown new t)
MakesParameters p ids ps old new (Err Memory) = Unit {0}

-- and so are other locals
abbrev pub MakesLocals : Program → List ℕ → World → World → Type 0
MakesLocals p ids old new = (t : List Event) → with_locals (unit_of p).tags (map (known p) ids) (shown old t) ≡ shown new t

-- a structure that is passed is copied to the running call's local n
abbrev pub Copies : Program → CoreOf ℕ → ℕ → Value → World → World → Checked Value Stop → Type 0
Copies p part n v old new (Ok copy) =
    (calls : Calls) (go : Argument → ℕ → RunWorld → Result) (k : ℕ) (t : List Event)
    → copied_to (setting_of p calls) (slice_get old.locals.here n) (giving (tree p part) v) v k (shown old t) go
    ≡ go (argument (giving (tree p part) v) copy) k (shown new t)
Copies p part n v old new (Err (Undefined cause line)) =
    (calls : Calls) (go : Argument → ℕ → RunWorld → Result) (k : ℕ) (t : List Event)
    → copied_to (setting_of p calls) (slice_get old.locals.here n) (giving (tree p part) v) v k (shown old t) go ≡ Ends (Undefines cause line) (shown new t)
Copies p part n v old new (Err Memory) = Unit {0}
