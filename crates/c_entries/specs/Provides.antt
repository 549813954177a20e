-- What built-in functions do.
use Rattle.std.specs.Prelude.{◌≡◌, ℕ, List, [], ◌∷◌, Result as Checked, Ok, Err}
use Rattle.lcc_base.specs.Traces.{Event, output_of}
use Rattle.c_meaning.specs.declared.built_in.BuiltIn.{BuiltIn}
use Rattle.objects.specs.declared.value.Value.{Value}
use Rattle.objects.specs.declared.value.Value.TheVariants.{Number}
use Rattle.c_runs.specs.Calls.{Argument, Call, provided, with_number}
use Rattle.c_runs.specs.Outcomes.{Result, Gives, Ends, Undefined as Undefines, Exit}
use Rattle.c_runs.specs.Worlds.{World as RunWorld}
use Rattle.c_entries.specs.declared.argument.Argument.{Argument as PassedArgument}
use Rattle.c_entries.specs.declared.built_ins.Provided.{Provided}
use Rattle.c_entries.specs.declared.built_ins.Provided.TheVariants.{Gave, Exits}
use Rattle.c_entries.specs.Arguments.{ArePassedAs}
use Rattle.c_worlds.specs.declared.stop.Stop.{Stop}
use Rattle.c_worlds.specs.declared.stop.Stop.TheVariants.{Undefined, Memory}
use Rattle.c_worlds.specs.declared.world.World.{World}
use Rattle.c_worlds.specs.Shown.{shown}

-- a call of a built-in function in this world, at this line, with these arguments
pub record IsCall (ps : List PassedArgument) (place : ℕ) (w : World) (t : List Event) (a : Call) : Type 0 where
  pub arguments : ArePassedAs ps a.arguments
  pub line : a.line ≡ place
  pub world : a.world ≡ shown w t

-- the number that a built-in function is called with, or why there is none
abbrev pub IsNumber : List PassedArgument → ℕ → Checked ℕ Stop → Type 0
IsNumber ps line (Ok n) = (xs : List Argument) → ArePassedAs ps xs → (w : RunWorld) (go : ℕ → Result) → with_number xs line w go ≡ go n
IsNumber ps line (Err (Undefined cause l)) =
    (xs : List Argument) → ArePassedAs ps xs → (w : RunWorld) (go : ℕ → Result) → with_number xs line w go ≡ Ends (Undefines cause l) w
IsNumber ps line (Err Memory) = ⊥

-- the next byte of the input, and what is behind it; or -1 at its end
abbrev pub IsNext : List ℕ → Value → List ℕ → Type 0
IsNext [] v rest = (v ≡ Number 4294967295) × (rest ≡ [])
IsNext (byte ∷ more) v rest = (v ≡ Number byte) × (rest ≡ more)

-- it gives a value, ends the program, or can't use a pointer as a number; what it writes is seen
abbrev pub Provides : BuiltIn → List PassedArgument → ℕ → World → World → Checked Provided Stop → Type 0
Provides b ps line old new (Ok (Gave v)) =
    (a : Call) (t : List Event) → IsCall ps line old t a → output_of t ≡ old.output
    → (t1 : List Event) × (output_of t1 ≡ new.output) × ((k : ℕ) → provided b a k ≡ Gives v k (shown new t1))
Provides b ps line old new (Ok (Exits status)) =
    (new.output ≡ old.output)
    × ((a : Call) (t : List Event) → IsCall ps line old t a → (k : ℕ) → provided b a k ≡ Ends (Exit status) (shown new t))
Provides b ps line old new (Err (Undefined cause l)) =
    (new.output ≡ old.output)
    × ((a : Call) (t : List Event) → IsCall ps line old t a → (k : ℕ) → provided b a k ≡ Ends (Undefines cause l) (shown new t))
Provides b ps line old new (Err Memory) = Unit {0}
